use Rattle.{std.{specs.Prelude.{Option, Some, None}, proofs.Common.{ℕ, List, true, sym, subst, ◌∙◌}}, desk_store_opening_tidy.specs.Owners.{IsNextPart, IsUnderParts, Passes}}
use Rattle.{desk_store_opening_tidy.proofs.PartOrder.{ends_owned, first_owned, passes_on, starts_after}, desk_store_pages.proofs.Looking.{both, fails, fails_then, finds}}
use Rattle.desk_store_opening_tidy.proofs.owners.pass_plan.Goals as goal

pub returns-in_err-found-clause-looks : goal.returns-in_err-found-clause-looks
returns-in_err-found-clause-looks g c = fails c.from_residual.result c.in_err-found.ensures c.from_residual.ensures.1 (λ m is. is.rows)

pub returns-in-None-clause-looks : goal.returns-in-None-clause-looks
returns-in-None-clause-looks g c = finds c.in_ok-found.ensures (λ m found before.
    let none = subst (λ (o : Option (ℕ × ℕ)). IsNextPart c.as_slice.result.now m o) c.in-None.is found in
    ends_owned c.args.counts.now m c.args.from.now (subst (λ (k : List ℕ). IsNextPart k m None) c.as_slice.ensures.bytes none) before)

pub returns-in_err-last-in-Some-clause-looks : goal.returns-in_err-last-in-Some-clause-looks
returns-in_err-last-in-Some-clause-looks g c =
    fails_then c.in_ok-found.ensures c.from_residual-in_err-last-in-Some.result c.in_err-last-in-Some.ensures c.from_residual-in_err-last-in-Some.ensures.1 (λ m found has.
    let (first, more, is, of) = subst (λ (o : Option (ℕ × ℕ)). IsNextPart c.as_slice.result.now m o) c.in-Some.is found in
    first_owned c.args.counts.now m c.as_slice.result.now first more is c.in-Some.plan c.in-Some.revision of has.owned)

pub returns-in_ok-last-in-Some-clause-under : goal.returns-in_ok-last-in-Some-clause-under
returns-in_ok-last-in-Some-clause-under g c = subst IsUnderParts (sym (c.set.ensures ∙ c.as_slice-in-Some.ensures.bytes ∙ c.key_after.ensures.is)) (starts_after c.in-Some.plan c.in_ok-last-in-Some.last)

pub returns-in_ok-last-in-Some-clause-looks : goal.returns-in_ok-last-in-Some-clause-looks
returns-in_ok-last-in-Some-clause-looks g c = finds (both c.in_ok-found.ensures c.in_ok-last-in-Some.ensures) (λ m found before.
    let counts = c.args.counts.now in
    let (first, more, is, of) = subst (λ (k : List ℕ). IsNextPart k m (Some (c.in-Some.plan, c.in-Some.revision))) c.as_slice.ensures.bytes (subst (λ (o : Option (ℕ × ℕ)). IsNextPart c.as_slice.result.now m o) c.in-Some.is found.0) in
    subst (λ (k : List ℕ). Passes true counts c.args.from.now k m) (sym (c.set.ensures ∙ c.as_slice-in-Some.ensures.bytes ∙ c.key_after.ensures.is))
    (passes_on counts m c.args.from.now first more is c.in-Some.plan c.in-Some.revision of c.in_ok-last-in-Some.last c.key_after.ensures.fits found.1 before))
