use Rattle.{std.proofs.Common.{Bool, sym, subst, ◌∙◌, arith, rules}, desk_store_opening_tidy.specs.Owners.Passes, page_store.specs.claim.Transactions.stored}
use Rattle.{desk_store_opening_tidy.proofs.{After.all_left, PartOrder.{begins_owned, parts_begin}}, desk_store_pages.proofs.Looking.{begins, both, fails_then, finds, not_looked}}
use Rattle.desk_store_opening_tidy.proofs.owners.check_owners.Goals as goal

pub loop-taken-init : goal.loop-taken-init
loop-taken-init g c = search (rules, arith, c.requires.begun, c.set.ensures, parts_begin, begins, c.args.counts.now, begins_owned, all_left, c.set.new.self)

pub returns-in_err-more : goal.returns-in_err-more
returns-in_err-more g c = fails_then c.loop-taken.invariant.looked c.from_residual.result c.in_err-more.ensures.looks c.from_residual.ensures.1 (λ m was has. has)

pub returns-then-not-more : goal.returns-then-not-more
returns-then-not-more g c = finds (both c.loop-taken.invariant.looked c.in_ok-more.ensures.looks) (λ m is.
    subst (λ (b : Bool). Passes b c.args.counts.now c.loop-taken.from c.pass_plan.new.from m) c.if-not-more.true (is.1 is.0.0))

pub loop-taken-preserved : goal.loop-taken-preserved
loop-taken-preserved g c = record {
  begun = c.loop-taken.invariant.begun ∙ sym c.pass_plan.ensures.looks.quiet.count;
  under = c.in_ok-more.ensures.under;
  looked = finds (both c.loop-taken.invariant.looked c.in_ok-more.ensures.looks) (λ m is.
      let on = subst (λ (b : Bool). Passes b c.args.counts.now c.loop-taken.from c.pass_plan.new.from m) c.if-not-more.false (is.1 is.0.0) in
      (on.0, omega arith));
}

pub returns : goal.returns
returns g c = not_looked c.loop-taken.invariant.looked.quiet (λ honest m holds has.
    let few = (c.loop-taken.invariant.looked.there honest m holds).1 in
    let limit = c.row_limit-taken-end.ensures (stored c.args.pages.now) m holds in
    let done = c.loop-taken-test.false in
    omega arith)
