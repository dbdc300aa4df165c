use Rattle.{std.proofs.Common.arith, page_btree_node.proofs.{Editing.bounds_of, Standing.opened}}
use Rattle.page_btree_node.proofs.node_buf.NodeBuf.size.Goals as goal

pub returns-clause-size : goal.returns-clause-size
returns-clause-size c = let o = opened _ _ _ _ _ c.self.invariant c.self.view_is in let b = bounds_of _ _ _ _ _ 0 o.stands o.count_of (omega arith) in omega arith

pub returns-clause-room : goal.returns-clause-room
returns-clause-room c = let o = opened _ _ _ _ _ c.self.invariant c.self.view_is in let b = bounds_of _ _ _ _ _ 0 o.stands o.count_of (omega arith) in omega arith
