use Rattle.{std.proofs.Common.rules, page_btree_node.proofs.Scanning.{read_held, read_node}}
use Rattle.page_btree_node.proofs.node_buf.NodeBuf.read.Goals as goal

pub invariant_of-self : goal.invariant_of-self
invariant_of-self c = read_held _ _ _ c.args.page.now c.copy_from_slice.new.self _ c.copy_from_slice.ensures.after c.told-page c.in-Some.ensures.scanned.held

pub returns-in-Some : goal.returns-in-Some
returns-in-Some c = record {
  read = read_node c.in-Some.count c.scan.new.ends c.args.page.now c.copy_from_slice.new.self _ c.copy_from_slice.ensures.after c.told-page c.in-Some.ensures.scanned.held c.in-Some.ensures.scanned.count;
  refused = search rules;
  nothing = search rules;
}
