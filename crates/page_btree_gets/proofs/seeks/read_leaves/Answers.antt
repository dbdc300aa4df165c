use Rattle.{std.proofs.{Common.{◌≤◌, ℕ, get_or, sym, ◌∙◌, arith}, lemmas.List.length-set}, page_btree_gets.specs.Getting.IsLevel, sector_device.specs.claim.Disk.Image}
use Rattle.{page_store.{specs.claim.Transactions.{stored, txn_pages, over}, proofs.Stops.passed_more}, page_btree_gets.proofs.{Following.page_more, Refusals.refused_below}}
use Rattle.page_btree_gets.proofs.seeks.read_leaves.Goals as goal

pub returns-in_err-read_level-clause-reading : goal.returns-in_err-read_level-clause-reading
returns-in_err-read_level-clause-reading g c =
    let t = c.args.txn.now in
    let all = λ (S : Image). (j : ℕ) → j ≤ c.args.more → IsLevel (txn_pages t) (over t S) 0 (get_or c.args.children.now j 0) in
    let one = λ (S : Image). IsLevel (txn_pages t) (over t S) 0 (get_or c.args.children.now c.loop-j.j 0) in
    let reaches = c.in_err-read_level.ensures.reaches in
    refused_below all one c.loop-j.invariant.passed reaches.reading c.from_residual.ensures.1 (λ honest is. rw (c.loop-j.invariant.passed.quiet.same (reaches.reading.quiet.honest honest)) (is c.loop-j.j (omega arith)))

pub loop-j-preserved : goal.loop-j-preserved
loop-j-preserved g c =
    let four = c.loop-j.invariant.four in
    let reaches = c.in_ok-read_level.ensures.reaches in
    record {
      begun = c.loop-j.invariant.begun ∙ sym reaches.reading.quiet.count;
      passed = passed_more _ _ _ c.loop-j.invariant.passed reaches.reading.passed;
      four = length-set c.loop-j.held c.loop-j.j c.read_level.new.page ∙ four;
      reads = λ honest.
          let before = reaches.reading.quiet.honest honest in
          page_more (over c.args.txn.now (stored c.args.pages.now)) c.args.children.now c.loop-j.held c.loop-j.j c.read_level.new.page (omega arith) (c.loop-j.invariant.reads before)
          (rw (c.loop-j.invariant.passed.quiet.same before) at (c.in_ok-read_level.ensures.reads honest));
    }
