-- The table of paths, and which of them a path is.
use Rattle.{std.specs.Prelude.{ℕ, List, [], Option, Some, None, option_map, get_or, Result, Ok, Err, codes}, http_desk_routes.specs.declared.route.Route.Route}
use Rattle.{http_desk_routes.specs.declared.route.Route.TheVariants.{Blocks, Plans, Plan, Revisions, Counties, Revision, Audit}, matchit.specs.{Order.placed, Params.walk}}
use Rattle.matchit.specs.{Route.{Scan, parse_route}, Router.{RouteOf, route_from}, Rows.RowsOf, Seek.first, declared.InsertError.InsertError}

-- the rows with one more route
abbrev pub with_read : Result Scan InsertError → Route → RowsOf (RouteOf Route) → RowsOf (RouteOf Route)
with_read (Ok s) route rows = placed ((route_from s route).pattern, route_from s route) rows
with_read (Err e) route rows = rows

abbrev pub with_route : List ℕ → Route → RowsOf (RouteOf Route) → RowsOf (RouteOf Route)
with_route text route rows = with_read (parse_route text) route rows

-- the table of paths; a name in braces stands for one part of at least one byte
abbrev pub the_routes : RowsOf (RouteOf Route)
the_routes =
    with_route (codes "/plans/{p}/revisions/{k}/audit") Audit
    (with_route (codes "/plans/{p}/revisions/{k}") Revision
    (with_route (codes "/plans/{p}/counties") Counties
    (with_route (codes "/plans/{p}/revisions") Revisions
    (with_route (codes "/plans/{p}") Plan
    (with_route (codes "/plans") Plans
    (with_route (codes "/blocks") Blocks []))))))

-- which of them the path is
abbrev pub route_of : List ℕ → Option Route
route_of path = option_map (λ route. route.value) (first the_routes path)

-- the parts of a path that the names of its route's pattern took, each with its name, in the order of the pattern
abbrev pub parts_of : Option (RouteOf Route) → List ℕ → List (List ℕ × List ℕ)
parts_of None path = []
parts_of (Some route) path = walk route.pattern route.text path route.names 0 0

abbrev pub no_part : List ℕ × List ℕ
no_part = ([], [])

-- the part that {p} took, which is the first name of each pattern that has one
abbrev pub plan_part : List ℕ → List ℕ
plan_part path = (get_or (parts_of (first the_routes path) path) 0 no_part).1

-- the part that {k} took, which is the second
abbrev pub revision_part : List ℕ → List ℕ
revision_part path = (get_or (parts_of (first the_routes path) path) 1 no_part).1
