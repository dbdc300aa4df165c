use Rattle.page_btree_node.proofs.Standing.{opened}
use Rattle.page_btree_node.proofs.node_buf.NodeBuf.len.Goals as goal

pub returns-clause-len : goal.returns-clause-len
returns-clause-len c = (opened _ _ _ _ _ c.self.invariant c.self.view_is).count_of
