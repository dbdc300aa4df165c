use Rattle.{std.proofs.Common.{ℕ, List, ap, ◌∙◌}, page_store.{specs.{claim.Transactions.{stored, over}, gate_journal.claim.Store.word}, proofs.Stops.passed_more}}
use Rattle.desk_store_opening.proofs.FreeLists.{follow_more}
use Rattle.page_btree.proofs.gets.Outcomes.{reads_ok, refused_after}
use Rattle.desk_store_opening.proofs.held.has_end.Goals as goal

pub returns-in_err-page-clause-reading : goal.returns-in_err-page-clause-reading
returns-in_err-page-clause-reading g c =
    let t = c.args.txn.now in
    let header = over t (stored c.args.pages.now) 0 in
    let read = c.in_ok-read.ensures in
    let follow = c.in_err-page.ensures.reading in
    refused_after _ read.reading.passed follow c.from_residual-in_err-page.ensures.1 (λ why.
    follow_more t c.word_at.result c.word_at-2.result (word header 1) (word header 2) c.args.pages.now c.read.new.pages c.follow.new.pages read.reading.passed follow.quiet (λ honest.
    let is = read.reads (follow.quiet.honest honest) in
    (c.word_at.ensures ∙ ap (λ (b : List ℕ). word b 1) is, c.word_at-2.ensures ∙ ap (λ (b : List ℕ). word b 2) is)) _ why)

pub returns-clause-reading : goal.returns-clause-reading
returns-clause-reading g c = reads_ok (passed_more _ _ _ c.in_ok-read.ensures.reading.passed c.in_ok-page.ensures.reading.passed)
