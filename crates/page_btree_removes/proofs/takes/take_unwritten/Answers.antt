use Rattle.{std.proofs.Common.{◌∙◌, Some, refl, ap, rules}, page_store.specs.claim.Transactions.{stored, over}, gate_journal.proofs.Images.{put_on, put_off}}
use Rattle.page_btree_removes.proofs.takes.take_unwritten.Goals as goal

pub returns-in_ok-write-in-Some-true : goal.returns-in_ok-write-in-Some-true
returns-in_ok-write-in-Some-true g c = record {
  reading = search rules;
  rooted = search rules;
  taken = λ honest es is rises.
      let S = stored c.args.pages.now in
      let write = c.in_ok-write-in-Some-true.ensures in
      let page = c.args.page in
      let bytes = c.take_spare_row.new.page in
      let done = rw (c.in-Some-true.is ∙ ap Some c.in-Some-true.field-0-test) at (c.in_ok-take_spare_row.ensures.taken es (rw (c.in_ok-read_level.ensures.reads honest) is) rises) in
      (done.0, done.1, done.3, rw (write.written S page ∙ put_on (page, bytes) (over c.args.txn.now S) page refl) done.2, λ q off. write.written S q ∙ put_off (page, bytes) (over c.args.txn.now S) q off, write.free S);
  kept = search rules;
  costs = search rules;
}
