use Rattle.{std.{specs.FinMap.entries, proofs.Common.{List, [], ℕ, Bool, sym, subst, ◌∙◌, arith}}, desk_store_opening_tidy.specs.Rows.{AreOfLoadsTo, ComesBefore}}
use Rattle.{page_store.specs.claim.Transactions.stored, desk_store_opening_tidy.proofs.After.{all_left, begins as begins_loads}}
use Rattle.desk_store_pages.proofs.Looking.{begins, both, fails_then, finds, not_looked}
use Rattle.desk_store_opening_tidy.proofs.loads.check_loads.Goals as goal

pub loop-taken-init : goal.loop-taken-init
loop-taken-init g c = record {
  begun = c.requires.begun;
  past = record { tag = 87; rest = []; is = c.set.ensures; past = omega arith };
  looked = begins (λ m holds stands. (subst (λ (k : List ℕ). AreOfLoadsTo k m) (sym c.set.ensures) (begins_loads m), all_left c.set.new.self (entries m)));
}

pub returns-in_err-more : goal.returns-in_err-more
returns-in_err-more g c = fails_then c.loop-taken.invariant.looked c.from_residual.result c.in_err-more.ensures.looks c.from_residual.ensures.1 (λ m was known. known)

pub returns-then-not-more : goal.returns-then-not-more
returns-then-not-more g c = finds (both c.loop-taken.invariant.looked c.in_ok-more.ensures.looks) (λ m is stands.
    subst (λ (b : Bool). ComesBefore b c.loop-taken.from c.pass_load.new.from m) c.if-not-more.true (is.1 stands (is.0 stands).0))

pub loop-taken-preserved : goal.loop-taken-preserved
loop-taken-preserved g c = record {
  begun = c.loop-taken.invariant.begun ∙ sym c.pass_load.ensures.looks.quiet.count;
  past = c.in_ok-more.ensures.past;
  looked = finds (both c.loop-taken.invariant.looked c.in_ok-more.ensures.looks) (λ m is stands.
      let was = is.0 stands in
      let on = subst (λ (b : Bool). ComesBefore b c.loop-taken.from c.pass_load.new.from m) c.if-not-more.false (is.1 stands was.0) in
      (on.0, omega arith));
}

pub returns : goal.returns
returns g c = not_looked c.loop-taken.invariant.looked.quiet (λ honest m holds kept.
    let few = (c.loop-taken.invariant.looked.there honest m holds kept.stands).1 in
    let limit = c.row_limit-taken-end.ensures (stored c.args.pages.now) m holds in
    let done = c.loop-taken-test.false in
    omega arith)
