use Rattle.std.{specs.Prelude.{All, get_or}, proofs.{Common.{take, sym, subst, ◌∙◌, take_all}, lemmas.List.{take_more, Elements.{All-nil, All-push}}}}
use Rattle.{plan_revisions_sweeps.specs.claim.Checks.IsHeldOrGone, desk_store_pages.proofs.Looking.{begins, both, fails_then, finds}}
use Rattle.plan_revisions_sweeps.proofs.names.check_numbers.Goals as goal

pub loop-number-init : goal.loop-number-init
loop-number-init g c = record { begun = c.requires.begun; gathers = begins (λ m holds all. (All-nil (IsHeldOrGone m c.args.plan), all)) }

pub returns-in_err-check_known : goal.returns-in_err-check_known
returns-in_err-check_known g c = fails_then c.loop-number.invariant.gathers c.from_residual.result c.in_err-check_known.ensures c.from_residual.ensures.1 (λ m done all. all c.loop-number.number-index 0 c.loop-number-test.true)

pub loop-number-preserved : goal.loop-number-preserved
loop-number-preserved g c = record {
  begun = c.loop-number.invariant.begun ∙ sym c.in_ok-check_known.ensures.quiet.count;
  gathers = finds (both c.loop-number.invariant.gathers c.in_ok-check_known.ensures) (λ m is all.
      let numbers = c.args.numbers.now in
      let i = c.loop-number.number-index in
      let done = is.0 all in
      let held = is.1 done.1 in
      (subst (All (IsHeldOrGone m c.args.plan)) (sym (take_more numbers i 0 c.loop-number-test.true)) (All-push (IsHeldOrGone m c.args.plan) (take i numbers) (get_or numbers i 0) done.0 held.0), held.1));
}

pub returns : goal.returns
returns g c = finds c.loop-number.invariant.gathers (λ m is all.
    let done = is all in
    (subst (All (IsHeldOrGone m c.args.plan)) (take_all c.loop-number.number-index c.args.numbers.now c.loop-number-test.false) done.0, done.1))
