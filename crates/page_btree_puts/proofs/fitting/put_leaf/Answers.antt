use Rattle.{std.proofs.Common.rules, page_store.specs.claim.Transactions.stored, page_btree_gets.proofs.Editing.some_of}
use Rattle.page_btree_puts.proofs.fitting.put_leaf.Goals as goal

pub returns : goal.returns
returns g c = record {
  reading = search rules;
  rooted = search rules;
  put = λ honest. some_of c.in_ok-did.did _ _ (λ put each. each (stored c.args.pages.now)) (rw c.in_ok-did.was at c.in-Some.ensures.put);
  kept = search rules;
  costs = search rules;
}
