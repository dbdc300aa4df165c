-- A route that was added is one more of the rows, and one that conflicts with none is declined for memory alone.
use Rattle.{std.proofs.Common.{◌≡◌, ℕ, List, [], ◌∷◌, Result, Ok, Err, None, inl, inr, OnOk, IfErr, IsErrAnd, codes, ap, subst, ◌∙◌, refl}, matchit.specs.Route.{Scan, parse_route}}
use Rattle.http_desk_routes.specs.{Routes.{DeclinesRead, Declines, MakesTable}, claim.Routes.{with_read, with_route, the_routes}, declared.route.Route.Route}
use Rattle.{http_desk_routes.specs.declared.route.Route.TheVariants.{Blocks, Plans, Plan, Revisions, Counties, Revision, Audit}, matchit.specs.Rows.RowsOf}
use Rattle.matchit.specs.{Router.{RouteOf, InsertsRead, nearest}, declared.{InsertError.InsertError, error.InsertError.TheVariants.{Conflict, OutOfMemory}}}
use Rattle.matchit.proofs.OnLiterals.{matchit_on_literals}

pub added_ok : (read : Result Scan InsertError) (route : Route) (old new : RowsOf (RouteOf Route)) (r : Result (Unit {0}) InsertError) → InsertsRead read route old new r → OnOk r (new ≡ with_read read route old)
added_ok (Ok s) route old new (Ok u) i = i.1
added_ok (Err f) route old new (Ok u) (same, inl bad) = absurd (cc)
added_ok (Err f) route old new (Ok u) (same, inr bad) = absurd (cc)
added_ok _ route old new (Err e) i = tt

pub declined_err : (read : Result Scan InsertError) (route : Route) (old new : RowsOf (RouteOf Route)) (r : Result (Unit {0}) InsertError) → InsertsRead read route old new r → IfErr r (λ e. DeclinesRead read old e)
declined_err (Ok s) route old new (Ok u) i = tt
declined_err (Ok s) route old new (Err e) i = i.1
declined_err (Err bad) route old new (Ok u) i = tt
declined_err (Err bad) route old new (Err e) (same, inl is) = inl (cc)
declined_err (Err bad) route old new (Err e) (same, inr is) = inr (cc)

-- the route reads well, and none of the rows conflicts with it
abbrev pub FitsRead : Result Scan InsertError → RowsOf (RouteOf Route) → Type 0
FitsRead (Ok s) rows = nearest s.pattern rows ≡ None
FitsRead (Err bad) rows = ⊥

read_memory : (read : Result Scan InsertError) (rows : RowsOf (RouteOf Route)) (e : InsertError) → FitsRead read rows → DeclinesRead read rows e → e ≡ OutOfMemory
read_memory (Ok s) rows (Conflict with) fits bad = absurd (cc)
read_memory (Ok s) rows OutOfMemory fits bad = refl
read_memory (Ok s) rows _ fits bad = absurd bad
read_memory (Err f) rows e fits bad = absurd fits

for_memory : (text : List ℕ) (rows old : RowsOf (RouteOf Route)) (e : InsertError) → FitsRead (parse_route text) rows → old ≡ rows → Declines text old e → e ≡ OutOfMemory
for_memory text rows old e fits same bad = read_memory (parse_route text) rows e fits (subst (λ x. Declines text x e) same bad)

-- what a `?` hands on of it
pub memory_told : (text : List ℕ) (rows old new : RowsOf (RouteOf Route)) (e : InsertError) (r : Result (Unit {0}) InsertError) → FitsRead (parse_route text) rows → old ≡ rows → Declines text old e → IsErrAnd r (λ x. x ≡ e) → MakesTable new r
memory_told text rows old new e (Ok u) fits same bad is = absurd is
memory_told text rows old new e (Err x) fits same bad is = (tt, is ∙ for_memory text rows old e fits same bad)

pub added_after : (text : List ℕ) (route : Route) (rows old new : RowsOf (RouteOf Route)) → new ≡ with_route text route old → old ≡ rows → new ≡ with_route text route rows
added_after text route rows old new is same = is ∙ ap (λ x. with_route text route x) same

-- what the last route comes to
pub last_told : (text : List ℕ) (route : Route) (rows old new : RowsOf (RouteOf Route)) (r : Result (Unit {0}) InsertError) → FitsRead (parse_route text) rows → with_route text route rows ≡ the_routes → old ≡ rows
    → OnOk r (new ≡ with_route text route old) → IfErr r (λ e. Declines text old e) → MakesTable new r
last_told text route rows old new (Ok u) fits all same is bad = (added_after text route rows old new is same ∙ all, tt)
last_told text route rows old new (Err e) fits all same is bad = (tt, for_memory text rows old e fits same bad)

-- none of the rows conflicts with the next route, and all are there in the end
abbrev pub AllFit : RowsOf (RouteOf Route) → List (List ℕ × Route) → Type 0
AllFit rows [] = rows ≡ the_routes
AllFit rows (next ∷ more) = FitsRead (parse_route next.0) rows × AllFit (with_route next.0 next.1 rows) more

pub all_fit : AllFit [] ((codes "/blocks", Blocks) ∷ (codes "/plans", Plans) ∷ (codes "/plans/{p}", Plan) ∷ (codes "/plans/{p}/revisions", Revisions) ∷ (codes "/plans/{p}/counties", Counties)
    ∷ (codes "/plans/{p}/revisions/{k}", Revision) ∷ (codes "/plans/{p}/revisions/{k}/audit", Audit) ∷ [])
unfolding matchit_on_literals
all_fit = (refl, (refl, (refl, (refl, (refl, (refl, (refl, refl)))))))
