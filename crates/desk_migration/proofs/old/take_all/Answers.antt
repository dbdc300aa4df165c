use Rattle.{std.proofs.Common.{Bool, sym, subst}, desk_migration.specs.TurningBack.IsTakenFirst, page_btree.specs.gets.claim.Map.InTxn, page_store.specs.claim.Transactions.stored}
use Rattle.{sector_device.specs.claim.Disk.Image, desk_migration.proofs.Back.{more_less, none_less}, desk_store_pages.proofs.Writing.{does, told_on}}
use Rattle.page_store.proofs.Stops.{passed_more, passed_none}
use Rattle.desk_store_opening.proofs.chunk_table.Writing.{after_reads}
use Rattle.desk_migration.proofs.old.take_all.Goals as goal

pub loop-taken-init : goal.loop-taken-init
loop-taken-init g c = record { begun = c.requires.begun; passed = passed_none c.args.pages.now; less = λ honest m holds. (m, holds, none_less c.args.tag m) }

pub returns-in_err-take_first : goal.returns-in_err-take_first
returns-in_err-take_first g c = told_on c.from_residual.result (after_reads _ c.loop-taken.invariant.passed.quiet c.in_err-take_first.ensures) c.from_residual.ensures.1 (λ why. tt)

pub returns-then-not-branch : goal.returns-then-not-branch
returns-then-not-branch g c =
    let before = c.loop-taken.invariant in
    does (after_reads _ before.passed.quiet c.in_ok-take_first.ensures)
    (λ did. (
      passed_more c.args.pages.now c.loop-taken.pages c.take_first.new.pages before.passed did.0,
      λ honest m holds.
          let then = c.in_ok-take_first.ensures.quiet.honest honest in
          let same = before.passed.quiet.same then in
          let (n, reads, less) = before.less then m holds in
          let there = subst (λ (P : Image). InTxn c.loop-taken.txn P n) (sym same) reads in
          let is = subst (λ (b : Bool). IsTakenFirst b c.args.tag c.take_first.new.txn (stored c.loop-taken.pages) n) c.if-not-branch.true (did.1 honest n there) in
          record { n = n; reads = subst (λ (P : Image). InTxn c.take_first.new.txn P n) same is.0; less = less; none = is.1 },
    ))

pub loop-taken-preserved : goal.loop-taken-preserved
loop-taken-preserved g c =
    let before = c.loop-taken.invariant in
    record {
      begun = c.in_ok-take_first.ensures.begun;
      passed = passed_more c.args.pages.now c.loop-taken.pages c.take_first.new.pages before.passed c.in_ok-take_first.ensures.put.0;
      less = λ honest m holds.
          let then = c.in_ok-take_first.ensures.quiet.honest honest in
          let same = before.passed.quiet.same then in
          let (n, reads, less) = before.less then m holds in
          let there = subst (λ (P : Image). InTxn c.loop-taken.txn P n) (sym same) reads in
          let (k, reads_then, next) = subst (λ (b : Bool). IsTakenFirst b c.args.tag c.take_first.new.txn (stored c.loop-taken.pages) n) c.if-not-branch.false (c.in_ok-take_first.ensures.put.1 honest n there) in
          (k, subst (λ (P : Image). InTxn c.take_first.new.txn P k) same reads_then, more_less c.args.tag m n k less next);
    }

pub returns : goal.returns
returns g c = record { quiet = c.loop-taken.invariant.passed.quiet; begun = c.loop-taken.invariant.begun; put = tt }
