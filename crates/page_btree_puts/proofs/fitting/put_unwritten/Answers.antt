use Rattle.{std.proofs.Common.{◌∙◌, rules, refl}, page_store.specs.claim.Transactions.{stored, over}}
use Rattle.page_store.proofs.gate_journal.Images.{put_on, put_off}
use Rattle.page_btree_puts.proofs.fitting.put_unwritten.Goals as goal

pub returns-in_ok-write-in-Some : goal.returns-in_ok-write-in-Some
returns-in_ok-write-in-Some g c = record {
  reading = search rules;
  rooted = search rules;
  put = λ honest es is rises begun.
      let S = stored c.args.pages.now in
      let t = c.args.txn.now in
      let page = c.args.page in
      let bytes = c.put_row.new.page in
      let write = c.in_ok-write-in-Some.ensures in
      let put = rw c.in-Some.is at (c.in_ok-put_row.ensures.put es (rw (c.in_ok-read_level.ensures.reads honest) is) rises begun) in
      (put.1, rw (write.written S page ∙ put_on (page, bytes) (over t S) page refl) put.0, put.2, λ q not_page. write.written S q ∙ put_off (page, bytes) (over t S) q not_page, λ n are off. write.free S n are off);
  kept = search rules;
  costs = search rules;
}
