use Rattle.{std.proofs.Common.rules, page_btree_removes.proofs.Edits.size_remove}
use Rattle.page_btree_gets.proofs.node.Laws.{node_unique}
use Rattle.page_btree_removes.proofs.removes.remove_link.Goals as goal

pub write-requires : goal.write-requires
write-requires c = search (rules, size_remove)

pub returns-clause-link : goal.returns-clause-link
returns-clause-link c = λ node is. search (rules, node_unique)
