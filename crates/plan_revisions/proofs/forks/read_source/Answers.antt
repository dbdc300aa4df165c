use Rattle.{std.proofs.Common.{◌≡◌, ◌≢◌, ◌∙◌, ◌++◌, List, ℕ, [], length, Option, rules, ap, subst, arith}, desk_store_rows.specs.declared.value.StoredPlan.StoredPlan}
use Rattle.{plan_revisions.{specs.PlanRows.IsFound, proofs.Desks.row_found}, desk_store_pages.proofs.Looking.{both, fails, fails_then, finds, gathered, refuses}}
use Rattle.plan_revisions.proofs.{Forking.names_there, Retiring.not_none}
use Rattle.plan_revisions.proofs.forks.read_source.Goals as goal

pub returns-in_err-row-clause-gathers : goal.returns-in_err-row-clause-gathers
returns-in_err-row-clause-gathers g c = fails c.from_residual.result (gathered _ c.in_err-row.ensures) c.from_residual.ensures.1
    (λ m said. row_found m said.desk.0 c.args.from.now said.desk.2.1.plan said.desk.1.desk said.desk.2.1.there)

pub returns-in_default-clause-gathers : goal.returns-in_default-clause-gathers
returns-in_default-clause-gathers g c = search (rules, arith, refuses, gathered, c.in_ok-row.ensures, not_none, c.args.from.now, c.in_default.is)

pub returns-in_err-next-clause-gathers : goal.returns-in_err-next-clause-gathers
returns-in_err-next-clause-gathers g c = fails_then (gathered _ c.in_ok-row.ensures) c.from_residual-in_err-next.result (gathered _ c.in_err-next.ensures.looks) c.from_residual-in_err-next.ensures.1
    (λ m found said. (said.desk.1.tidy.next, said.desk.1.tidy.is_next))

pub returns-in_err-append_names-clause-gathers : goal.returns-in_err-append_names-clause-gathers
returns-in_err-append_names-clause-gathers g c =
    fails_then (both (gathered _ c.in_ok-row.ensures) (gathered _ c.in_ok-next.ensures.looks)) c.from_residual-in_err-append_names.result c.in_err-append_names.ensures c.from_residual-in_err-append_names.ensures.1
    (λ m read said. names_there c.plans_are_told.ensures c.lists_are_cut.ensures said.g c.args.from.now c.args.revision c.in-Some.row c.args.count said.many (search rules) m said.desk.0
    (subst (λ (o : Option StoredPlan). IsFound m c.args.from.now o) c.in-Some.is read.0) said.desk.1 said.desk.2)

pub returns-then-len-count-clause-gathers : goal.returns-then-len-count-clause-gathers
returns-then-len-count-clause-gathers g c =
    let none : c.new-kept.result.items ≡ [] = search rules in
    let other : length c.append_names.new.into.items ≢ c.args.count = search rules in
    refuses (both (both (gathered _ c.in_ok-row.ensures) (gathered _ c.in_ok-next.ensures.looks)) c.in_ok-append_names.ensures) (λ m read said.
    let names = names_there c.plans_are_told.ensures c.lists_are_cut.ensures said.g c.args.from.now c.args.revision c.in-Some.row c.args.count said.many (search rules) m said.desk.0
    (subst (λ (o : Option StoredPlan). IsFound m c.args.from.now o) c.in-Some.is read.0.0) said.desk.1 said.desk.2 in
    other (ap length (read.1.0 names.0 names.1 ∙ ap (λ (l : List ℕ). l ++ names.0) none) ∙ names.1.long))

pub returns-clause-gathers : goal.returns-clause-gathers
returns-clause-gathers g c =
    let none : c.new-kept.result.items ≡ [] = search rules in
    finds (both (both (gathered _ c.in_ok-row.ensures) (gathered _ c.in_ok-next.ensures.looks)) c.in_ok-append_names.ensures) (λ m read. record {
      found = subst (λ (o : Option StoredPlan). IsFound m c.args.from.now o) c.in-Some.is read.0.0;
      is_next = read.0.1;
      names = λ numbers are. read.1.0 numbers are ∙ ap (λ (l : List ℕ). l ++ numbers) none;
    })
