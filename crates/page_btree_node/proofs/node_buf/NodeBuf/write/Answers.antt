use Rattle.{std.proofs.Common.{◌≡◌, ◌≤◌, length, arith, subst, ◌∙◌}, page_btree_node.{specs.{Node.bytes_of, claim.{Entries.size_of, Node.IsShape}}, proofs.Editing.bounds_of}}
use Rattle.page_btree_node.proofs.{Laws.node_written, Standing.opened, Writing.page_written}
use Rattle.page_btree_node.proofs.node_buf.NodeBuf.write.Goals as goal

pub put_body-requires : goal.put_body-requires
put_body-requires c =
    let fits : size_of c.args.self.now.entries ≤ 4092 = c.requires in let o = opened _ _ _ _ _ c.self.invariant c.self.view_is in let n = o.count_of in let b = bounds_of _ _ _ _ _ (length c.args.self.now.entries) o.stands o.count_of (omega arith) in
    record { order = omega arith; within = omega arith }

written : (c : goal.After-put_body) → c.put_body.new.page ≡ bytes_of c.args.self.now
written c =
    let o = opened _ _ _ _ _ c.self.invariant c.self.view_is in
    page_written _ _ _ c.self.inside.ends c.self.inside.bytes c.args.page.now c.put_body.new.page o.stands o.count_of c.requires c.told-page c.put_body.ensures
    ∙ (λ x. bytes_of (record { level = o.level_of x; entries = c.args.self.now.entries }))

pub returns-clause-bytes : goal.returns-clause-bytes
returns-clause-bytes c = written c

pub returns-clause-node : goal.returns-clause-node
returns-clause-node c = search (written c, node_written c.args.self.now (subst IsShape c.self.view_is c.self.invariant.shape) c.requires)
