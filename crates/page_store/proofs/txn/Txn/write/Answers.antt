use Rattle.page_store.{specs.claim.Transactions.over, proofs.Chains.chain_put}
use Rattle.page_store.proofs.txn.Txn.write.Goals as goal

pub returns-clause-free : goal.returns-clause-free
returns-clause-free c = λ P n free off. chain_put n (over c.args.self.now P) _ c.args.p c.args.bytes.now c.args.self.now.first c.args.self.now.free (c.in_ok-put.ensures.written P) free off
