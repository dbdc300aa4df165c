-- What a request asks for, by its method, its target and its body.
use Rattle.std.specs.{List.{before_first, after_first}, Prelude.{ℕ, ◌==◌, if◌then◌else◌, List, Option, Some, None, codes}}
use Rattle.desk_model.specs.{claim.Name.plan_name_of, declared.{command.{Command.TheVariants.{Create, Whole, Counties, Retire, Fork}, Query.Query}, kind.Kind.Kind}}
use Rattle.{desk_model.specs.declared.{command.Query.TheVariants.{Plans, Blocks, Revision, Audit}, companions.Companions.Companions}, field_text.specs.claim.Digits.number_of}
use Rattle.http_desk_routes.specs.claim.{Methods.{is_method, is_known, methods_of, takes}, Queries.{create_query, after_query, from_query, companions_query, is_no_query}}
use Rattle.http_desk_routes.specs.{claim.Routes.{route_of, plan_part, revision_part}, declared.{method.Methods.TheVariants.Make, order.Order.Order, route.Route.Route}}
use Rattle.http_desk_routes.specs.declared.order.Error.TheVariants.{UnknownMethod, NoRoute, MethodNotAllowed, BadName, BadNumber, BadQuery}
use Rattle.percent_encoding.specs.Percent.{percent_decode}
use Rattle.http_desk_routes.specs.declared.route.Route.TheVariants as route
use Rattle.http_desk_routes.specs.declared.order.Order.TheVariants as order

-- the path is what stands before the first question mark, and the query what stands after it (RFC 9112, section 3.2.1)
abbrev pub path_of : List ℕ → List ℕ
path_of target = before_first (λ b. b == 63) target

abbrev pub query_of : List ℕ → List ℕ
query_of target = after_first (λ b. b == 63) target

abbrev pub create_order : Option (List ℕ) → Option (Kind × ℕ) → Order
create_order None size = order.Refused BadName
create_order (Some name) None = order.Refused BadQuery
create_order (Some name) (Some size) = order.Command (Create name size)

-- the name that a path's part {p} spells, percent-decoded
abbrev pub name_in : List ℕ → Option (List ℕ)
name_in plan = plan_name_of (percent_decode plan)

-- the number that a path's part {k} spells, percent-decoded, of 1 to 5 digits
abbrev pub number_in : List ℕ → Option ℕ
number_in revision = number_of 5 (percent_decode revision)

abbrev pub whole_order : Option (List ℕ) → Option ℕ → List ℕ → Order
whole_order None after body = order.Refused BadName
whole_order (Some name) None body = order.Refused BadQuery
whole_order (Some name) (Some after) body = order.Command (Whole name after body)

abbrev pub counties_order : Option (List ℕ) → Option ℕ → List ℕ → Order
counties_order None after body = order.Refused BadName
counties_order (Some name) None body = order.Refused BadQuery
counties_order (Some name) (Some after) body = order.Command (Counties name after body)

abbrev pub retire_order : Option (List ℕ) → List ℕ → Order
retire_order None query = order.Refused BadName
retire_order (Some name) query = if is_no_query query then order.Command (Retire name) else order.Refused BadQuery

abbrev pub fork_order : Option (List ℕ) → Option (List ℕ × ℕ) → Order
fork_order None from = order.Refused BadName
fork_order (Some name) None = order.Refused BadQuery
fork_order (Some name) (Some from) = order.Command (Fork name from)

-- a query takes no name and no value
abbrev pub plain_query : Query → List ℕ → Order
plain_query asked query = if is_no_query query then order.Query asked else order.Refused BadQuery

abbrev pub revision_order : Option (List ℕ) → Option ℕ → List ℕ → Order
revision_order None k query = order.Refused BadName
revision_order (Some name) None query = order.Refused BadNumber
revision_order (Some name) (Some k) query = plain_query (Revision name k) query

abbrev pub audit_order : Option (List ℕ) → Option ℕ → Option (Companions (List ℕ × ℕ)) → Order
audit_order None k told = order.Refused BadName
audit_order (Some name) None told = order.Refused BadNumber
audit_order (Some name) (Some k) None = order.Refused BadQuery
audit_order (Some name) (Some k) (Some beside) = order.Query (Audit name k beside.senate beside.congress)

-- a plan is made, forked from a revision of another one, or taken away
abbrev pub plan_order : (method plan query : List ℕ) → Order
plan_order method plan query =
    if is_method (codes "PUT") method then create_order (name_in plan) (create_query query)
    else if is_method (codes "POST") method then fork_order (name_in plan) (from_query query)
    else if is_method (codes "DELETE") method then retire_order (name_in plan) query
    else order.Refused (MethodNotAllowed Make)

-- what one of the page's methods asks for, by the parts of its path
abbrev pub order_on : Route → (method plan revision query body : List ℕ) → Order
order_on route.Blocks method plan revision query body = plain_query Blocks query
order_on route.Plans method plan revision query body = plain_query Plans query
order_on route.Plan method plan revision query body = plan_order method plan query
order_on route.Revisions method plan revision query body = whole_order (name_in plan) (after_query query) body
order_on route.Counties method plan revision query body = counties_order (name_in plan) (after_query query) body
order_on route.Revision method plan revision query body = revision_order (name_in plan) (number_in revision) query
order_on route.Audit method plan revision query body = audit_order (name_in plan) (number_in revision) (companions_query query)

-- HEAD asks what GET asks; the method is judged before the path's parts and the query
abbrev pub order_with : Route → (method plan revision query body : List ℕ) → Order
order_with p method plan revision query body =
    if takes (methods_of p) method then order_on p method plan revision query body
    else order.Refused (MethodNotAllowed (methods_of p))

abbrev pub order_at : Option Route → (method path query body : List ℕ) → Order
order_at None method path query body = order.Refused NoRoute
order_at (Some p) method path query body = order_with p method (plan_part path) (revision_part path) query body

-- what the request asks for
abbrev pub order_of : (method target body : List ℕ) → Order
order_of method target body =
    if is_known method then order_at (route_of (path_of target)) method (path_of target) (query_of target) body
    else order.Refused UnknownMethod
