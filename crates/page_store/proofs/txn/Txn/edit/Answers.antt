use Rattle.{std.specs.Fn.FnOnceReturnsAtMut, gate_journal.specs.{Store.Writes, claim.Writes.writes_of}, page_store.proofs.Chains.edited_free}
use Rattle.page_store.proofs.txn.Txn.edit.Goals as goal

pub returns-clause-free : goal.returns-clause-free
returns-clause-free g c = λ P n free off.
    let old = c.args.self.now.writes in
    edited_free c.edit.result (Writes (writes_of old) c.args.p → ⊥) (Writes (writes_of old) c.args.p) (FnOnceReturnsAtMut g.F.FnOnce c.args.change) old c.edit.new.self c.args.p c.args.self.now.first c.args.self.now.free c.edit.ensures.edited P n free off
