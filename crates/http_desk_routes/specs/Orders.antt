-- What no promise rests on, beside claim/Orders.antt.
use Rattle.std.specs.Prelude.{ℕ, Bool, true, false, ◌&&◌, List, Option, Some, None}
use Rattle.{desk_model.specs.declared.command.{Command.TheVariants.Counties, Query.TheVariants.{Plans, Blocks, Revision, Audit}}, http_desk_routes.specs.claim.Orders.path_of}
use Rattle.http_desk_routes.specs.{claim.{Methods.{is_known, methods_of, takes}, Routes.route_of}, declared.route.Route.Route}
use Rattle.http_desk_routes.specs.declared.route.Route.TheVariants as route

-- what a request for a page of one plan names is decoded
abbrev pub is_decoded : Route → Bool
is_decoded route.Blocks = false
is_decoded route.Plans = false
is_decoded route.Plan = true
is_decoded route.Revisions = true
is_decoded route.Counties = true
is_decoded route.Revision = true
is_decoded route.Audit = true

abbrev pub may_decode : Option Route → (method : List ℕ) → Bool
may_decode None method = false
may_decode (Some p) method = takes (methods_of p) method && is_decoded p

-- only a request for a page of one plan, by a method that it takes, may take memory
abbrev pub may_take_memory : (method target : List ℕ) → Bool
may_take_memory method target = is_known method && may_decode (route_of (path_of target)) method
