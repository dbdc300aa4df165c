use Rattle.std.proofs.{Common.arith, lemmas.{Bool.cases_lt, List.{get_or-replicate, get_or_past, length-replicate}}}
use Rattle.page_store.proofs.txn.Prepared.commit.Goals as goal

pub invariant_of-pages-2 : goal.invariant_of-pages-2
invariant_of-pages-2 g c = search (arith, c.args.self.meta, cases_lt, get_or-replicate, get_or_past, length-replicate)
