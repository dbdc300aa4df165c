use Rattle.page_btree_node.proofs.Writing.{body_written}
use Rattle.page_btree_node.proofs.entry.put_body.Goals as goal

pub returns : goal.returns
returns c = search (body_written, c.requires.order, c.requires.within, c.fill.ensures.after)
