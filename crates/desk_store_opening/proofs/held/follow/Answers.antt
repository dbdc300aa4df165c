use Rattle.{std.proofs.Common.{ℕ, List, refl, sym, ap, ◌∙◌, arith}, page_store.specs.{claim.Transactions.{stored, txn_pages, over}, gate_journal.claim.Store.word}}
use Rattle.{sector_device.specs.claim.Disk.Image, desk_store_opening.proofs.FreeLists.{after_next, after_within, follow_unread, follow_more}, page_store.proofs.Stops.passed_more}
use Rattle.page_btree.proofs.gets.Outcomes.{reads_err, refused_after}
use Rattle.desk_store_opening.proofs.held.follow.Goals as goal

pub returns-then-page-page_count-clause-reading : goal.returns-then-page-page_count-clause-reading
returns-then-page-page_count-clause-reading g c = reads_err c.loop-k.invariant.passed.quiet (λ honest free.
    let at = c.loop-k.invariant.at honest in
    let below = after_within (txn_pages c.args.txn.now) (over c.args.txn.now (stored c.args.pages.now)) c.args.first c.args.count c.loop-k.k c.loop-k-test.true free in
    omega (arith, at, below, c.if-page-page_count.true, c.page_count.ensures))

pub returns-in_err-read-clause-reading : goal.returns-in_err-read-clause-reading
returns-in_err-read-clause-reading g c =
    let t = c.args.txn.now in
    let read = c.in_err-read.ensures.reading in
    refused_after _ c.loop-k.invariant.passed read c.from_residual.ensures.1 (λ why.
    follow_more t c.args.first c.args.count c.args.first c.args.count c.args.pages.now c.loop-k.pages c.read.new.pages c.loop-k.invariant.passed read.quiet (λ honest. (refl, refl)) _ (follow_unread t c.args.first c.args.count c.loop-k.pages c.read.new.pages c.in_err-read.field-0.0 why))

pub loop-k-preserved : goal.loop-k-preserved
loop-k-preserved g c =
    let t = c.args.txn.now in
    let a = c.args.pages.now in
    let before = c.loop-k.invariant in
    let read = c.in_ok-read.ensures in
    record {
      begun = before.begun ∙ sym read.reading.quiet.count;
      passed = passed_more _ _ _ before.passed read.reading.passed;
      at = λ honest.
          let then = read.reading.quiet.honest honest in
          let bytes = read.reads honest ∙ ap (λ (P : Image). over t P c.loop-k.page) (before.passed.quiet.same then) ∙ ap (over t (stored a)) (before.at then) in
          c.word_at-page.ensures ∙ ap (λ (b : List ℕ). word b 0) bytes ∙ sym (after_next (over t (stored a)) c.args.first c.loop-k.k);
    }
