-- What is shown may cross threads, as all that it holds may.
use denote.Param.Send.{IsSend, IsSync, sendable}
use Rattle.std.proofs.Crossing.{crosses}
use Rattle.desk_store_catalogue.proofs.desk_store_lists.tree.Branch.TheLaws.TheKnot as branch_knot
use Rattle.desk_store_catalogue.proofs.desk_store_lists.trees.Trees.TheLaws.TheKnot as trees_knot
use Rattle.desk_store_catalogue.proofs.desk_store_plans.tree.Tree.TheLaws.TheKnot as knot
use Rattle.logbook.proofs.tokens.Seen.TheSendSync.{the_send as seen_send, the_sync as seen_sync}
use Rattle.desk_store_catalogue.specs.desk_store_lists.contracts.districts.Districts as Districts
use Rattle.desk_store_catalogue.specs.desk_store_lists.contracts.tree.Branch as Branch
use Rattle.desk_store_catalogue.specs.desk_store_lists.contracts.trees.Trees as Trees
use Rattle.desk_store_catalogue.specs.desk_store_plans.contracts.entry.Entry as Entry
use Rattle.desk_store_catalogue.specs.desk_store_plans.contracts.tree.Tree as Tree
use Rattle.desk_store_catalogue.specs.contracts.catalogue.Catalogue as Catalogue
use Rattle.desk_gallery.specs.contracts.shelf.PublishedDesk as PublishedDesk

pub branch_send : IsSend (Branch.the_row Districts.the_row)
branch_send = search (sendable, crosses, branch_knot.crosses) depth 60 fits 20000

pub branch_sync : IsSync (Branch.the_row Districts.the_row)
branch_sync = search (sendable, crosses, branch_knot.crosses) depth 60 fits 20000

pub trees_send : IsSend (Trees.the_row Districts.the_row)
trees_send = search (sendable, crosses, trees_knot.crosses, branch_send, branch_sync) depth 60 fits 20000

pub trees_sync : IsSync (Trees.the_row Districts.the_row)
trees_sync = search (sendable, crosses, trees_knot.crosses, branch_send, branch_sync) depth 60 fits 20000

pub entry_send : IsSend Entry.the_row
entry_send = search (sendable, crosses, trees_send, trees_sync) depth 60 fits 20000

pub entry_sync : IsSync Entry.the_row
entry_sync = search (sendable, crosses, trees_send, trees_sync) depth 60 fits 20000

pub tree_send : IsSend Tree.the_row
tree_send = search (sendable, crosses, knot.crosses, entry_send, entry_sync) depth 60 fits 20000

pub tree_sync : IsSync Tree.the_row
tree_sync = search (sendable, crosses, knot.crosses, entry_send, entry_sync) depth 60 fits 20000

pub catalogue_send : IsSend Catalogue.the_row
catalogue_send = search (sendable, crosses, tree_send, tree_sync, entry_send, entry_sync) depth 60 fits 20000

pub catalogue_sync : IsSync Catalogue.the_row
catalogue_sync = search (sendable, crosses, tree_send, tree_sync, entry_send, entry_sync) depth 60 fits 20000

pub shelf_send : IsSend PublishedDesk.the_row
shelf_send = search (sendable, crosses, seen_send, seen_sync, catalogue_send, catalogue_sync) depth 60 fits 20000

pub shelf_sync : IsSync PublishedDesk.the_row
shelf_sync = search (sendable, crosses, seen_send, seen_sync, catalogue_send, catalogue_sync) depth 60 fits 20000
