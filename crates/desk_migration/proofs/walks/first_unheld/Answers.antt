use Rattle.std.{specs.Prelude.All, proofs.{Common.{◌<◌, ◌≤◌, ℕ, List, length, get_or, sym, subst, ◌∙◌, take_all}, lemmas.List.Elements.All-more}}
use Rattle.{desk_migration.specs.Walks.HoldsIt, desk_store_rows.specs.claim.{Keys.holding, Rows.Lacks}, desk_store_pages.proofs.Looking.{begins, both, fails_then, finds}}
use Rattle.desk_migration.proofs.walks.first_unheld.Goals as goal

pub loop-place-init : goal.loop-place-init
loop-place-init g c = record { begun = c.requires.begun; looked = begins (λ m holds known. known.2) }

pub returns-in_err-is_held_at-clause-looks : goal.returns-in_err-is_held_at-clause-looks
returns-in_err-is_held_at-clause-looks g c = fails_then c.loop-place.invariant.looked c.from_residual.result c.in_err-is_held_at.ensures c.from_residual.ensures.1 (λ m was is. is)

pub returns-then-not-branch-clause-looks : goal.returns-then-not-branch-clause-looks
returns-then-not-branch-clause-looks g c = finds (both c.loop-place.invariant.looked c.in_ok-is_held_at.ensures) (λ m is. (
  subst (λ (l : List ℕ). Lacks m (holding c.args.part.now.plan (get_or l c.loop-place.place 0))) c.as_slice-numbers.ensures.value (is.1.0 c.if-not-branch.true),
  search is.0,
))

pub returns-then-not-branch-clause-within : goal.returns-then-not-branch-clause-within
returns-then-not-branch-clause-within g c = subst (λ (l : List ℕ). c.loop-place.place < length l) c.as_slice-numbers.ensures.value c.loop-place-test.true

pub loop-place-preserved : goal.loop-place-preserved
loop-place-preserved g c =
    let of = c.args.part.now in
    let place = c.loop-place.place in
    let same = c.as_slice-numbers.ensures.value in
    record {
      begun = c.loop-place.invariant.begun ∙ sym c.in_ok-is_held_at.ensures.quiet.count;
      looked = finds (both c.loop-place.invariant.looked c.in_ok-is_held_at.ensures) (λ m is known.
          All-more (HoldsIt of.plan m) of.numbers.items place 0 (subst (λ (l : List ℕ). place < length l) same c.loop-place-test.true)
          (is.0 known) (subst (λ (l : List ℕ). HoldsIt of.plan m (get_or l place 0)) same (is.1.1 known.0 known.1 c.if-not-branch.false)));
    }

pub returns-clause-looks : goal.returns-clause-looks
returns-clause-looks g c = finds c.loop-place.invariant.looked (λ m is. (
  tt,
  λ known.
      let of = c.args.part.now in
      let place = c.loop-place.place in
      let end = subst (λ (l : List ℕ). length l ≤ place) c.as_slice-numbers.ensures.value c.loop-place-test.false in
      subst (All (HoldsIt of.plan m)) (take_all place of.numbers.items end) (is known),
))
