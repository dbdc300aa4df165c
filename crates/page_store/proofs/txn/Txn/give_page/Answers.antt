use Rattle.{std.proofs.Common.arith, page_store.{specs.claim.Transactions.free_over, proofs.Chains.{length_chain, chain_push, room_left, link_blank}}}
use Rattle.page_store.proofs.txn.Txn.give_page.Goals as goal

pub returns-then-self-clause-err : goal.returns-then-self-clause-err
returns-then-self-clause-err c = λ P some free off. search (arith, room_left c.args.self.now.pages c.args.p (free_over c.args.self.now P), length_chain)

pub returns-clause-given : goal.returns-clause-given
returns-clause-given c = λ P n free off. search (chain_push, c.in_ok-put.ensures.written, link_blank)
