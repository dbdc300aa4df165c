use Rattle.{std.proofs.Common.{sym, ◌∙◌, arith, rules}, page_btree_checks.specs.Faults.TellsOf, page_store.specs.claim.Transactions.{stored, txn_pages, over}}
use Rattle.{page_btree_checks.proofs.{Errors.unsound_after, Faults.listed_at, Lists.{more_listed, all_listed, can_name, ends_with}}, page_store.proofs.Stops.passed_more}
use Rattle.page_btree_gets.proofs.Outcomes.{err_of, reads_err}
use Rattle.page_btree_checks.proofs.free.check_free.Goals as goal

pub loop-taken-init : goal.loop-taken-init
loop-taken-init g c = search rules

pub returns-in_err-next-clause-reading : goal.returns-in_err-next-clause-reading
returns-in_err-next-clause-reading g c =
    let before = c.loop-taken.invariant in
    unsound_after before.passed c.in_err-next.ensures.reading c.from_residual.ensures.1 (λ honest is.
    let then = c.in_err-next.ensures.reading.quiet.honest honest in
    let may = can_name _ _ _ _ _ _ _ (before.listed then) c.loop-taken-test.true is in
    (may.0, rw (before.passed.quiet.same then) may.1))

pub loop-taken-preserved : goal.loop-taken-preserved
loop-taken-preserved g c =
    let before = c.loop-taken.invariant in
    let next = c.in_ok-next.ensures in
    record {
      begun = before.begun ∙ sym next.reading.quiet.count;
      long = next.named.long ∙ before.long;
      passed = passed_more _ _ _ before.passed next.reading.passed;
      listed = λ honest.
          let then = next.reading.quiet.honest honest in
          let free = rw (before.passed.quiet.same then) at (next.free honest) in
          more_listed _ _ _ _ _ _ _ _ (before.listed then) next.named free.0 free.1;
    }

pub returns-then-next-ne0-clause-reading : goal.returns-then-next-ne0-clause-reading
returns-then-next-ne0-clause-reading g c = reads_err c.loop-taken.invariant.passed.quiet (λ honest is.
    c.if-next-ne0.true (ends_with _ _ _ _ _ _ _ (c.loop-taken.invariant.listed honest) (let done = c.loop-taken-test.false in let most = c.loop-taken.auto.taken-end in omega arith) is))

pub returns-clause-long : goal.returns-clause-long
returns-clause-long g c = c.loop-taken.invariant.long ∙ sym c.requires.long

pub returns-clause-free : goal.returns-clause-free
returns-clause-free g c = λ honest. all_listed _ _ _ _ _ _ _ (c.loop-taken.invariant.listed honest) (omega arith) (omega arith)

pub returns-in_err-next-clause-told : goal.returns-in_err-next-clause-told
returns-in_err-next-clause-told g c = λ honest first_is count_is.
    let before = c.loop-taken.invariant in
    let then = c.in_err-next.ensures.reading.quiet.honest honest in
    let same = before.passed.quiet.same then in
    let listed = listed_at _ _ _ _ _ _ _ (before.listed then) c.loop-taken-test.true first_is count_is in
    err_of _ _ (TellsOf (txn_pages c.args.txn.now) (over c.args.txn.now (stored c.args.pages.now))) c.from_residual.ensures.1 (rw same at (c.in_err-next.ensures.told honest (rw same listed)))

pub returns-then-next-ne0-clause-told : goal.returns-then-next-ne0-clause-told
returns-then-next-ne0-clause-told g c = λ honest first_is count_is. search rules
