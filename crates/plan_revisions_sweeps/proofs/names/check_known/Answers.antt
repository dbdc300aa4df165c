use Rattle.{std.{specs.Prelude.{List, ℕ, Contains}, proofs.{Common.subst, lemmas.List.Elements.All-contains}}, plan_revisions_sweeps.specs.claim.Checks.IsHeldOrGone}
use Rattle.{desk_store_pages.proofs.Looking.{begins, fails, gathered}, plan_revisions_sweeps.proofs.{Named.with_one, Scanned.notes}}
use Rattle.plan_revisions_sweeps.proofs.names.check_known.Goals as goal

pub returns-then-is_noted : goal.returns-then-is_noted
returns-then-is_noted g c = begins (λ m holds all.
    let number = c.args.number in
    (All-contains (IsHeldOrGone m c.args.plan) c.args.known.now.items number all (subst (λ (l : List ℕ). Contains l number) c.as_slice.ensures.value (c.is_noted.ensures c.if-is_noted.true)), all))

pub returns-in_err-check_name : goal.returns-in_err-check_name
returns-in_err-check_name g c = fails c.from_residual.result (gathered _ c.in_err-check_name.ensures) c.from_residual.ensures.1 (λ m is. is)

pub returns : goal.returns
returns g c = notes (gathered _ c.in_ok-check_name.ensures) c.note.result c.note.ensures
    (λ m u held more all. (held, with_one (IsHeldOrGone m c.args.plan) c.args.number c.args.known.now.items c.note.new.known.items more held all))
