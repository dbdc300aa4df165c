-- What no promise rests on, beside claim/Routes.antt.
use Rattle.std.specs.{Prelude.{◌≡◌, ◌⊎◌, ℕ, List, Result, Ok, Err, OnOk, IfErr, [], ◌∷◌}, Str.IsUtf8}
use Rattle.{http_desk_routes.specs.{claim.Routes.the_routes, declared.route.Route.Route}, matchit.specs.{Route.{Scan, parse_route}, Router.{RouteOf, Refused}, Rows.RowsOf}}
use Rattle.matchit.specs.declared.{InsertError.InsertError, error.InsertError.TheVariants.OutOfMemory}

-- why a route is not added to the rows: one of them conflicts with it, it is none, or there was no memory
abbrev pub DeclinesRead : Result Scan InsertError → RowsOf (RouteOf Route) → InsertError → Type 0
DeclinesRead (Ok s) rows e = Refused s.pattern rows e
DeclinesRead (Err bad) rows e = (e ≡ bad) ⊎ (e ≡ OutOfMemory)

abbrev pub Declines : List ℕ → RowsOf (RouteOf Route) → InsertError → Type 0
Declines text rows e = DeclinesRead (parse_route text) rows e

-- all routes are in the table, or there was no memory
abbrev pub MakesTable : RowsOf (RouteOf Route) → Result (Unit {0}) InsertError → Type 0
MakesTable new r = OnOk r (new ≡ the_routes) × IfErr r (λ e. e ≡ OutOfMemory)

-- the parts of a path are texts
abbrev pub AreUtf8 : List (List ℕ × List ℕ) → Type 0
AreUtf8 [] = Unit {0}
AreUtf8 (part ∷ parts) = IsUtf8 part.1 × AreUtf8 parts
