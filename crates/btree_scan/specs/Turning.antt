-- The next of the leaves that are held.
use Rattle.std.specs.Prelude.{◌≡◌, ◌<◌, ◌+◌, List, ◌++◌, length, drop}
use Rattle.{btree_scan.specs.{Parts.page_of, declared.held.HeldLeaves.HeldLeaves}, page_btree.specs.{gets.{Seeking.AreLeaves, declared.seeks.Leaf.Leaf}, node.Walking.IsAhead}}
use Rattle.page_btree.specs.node.claim.Entries.{Entry}

-- of the rows of leaves those of the first are ahead in its page, and the others are in the leaves behind it
pub record IsTurned (rows : List Entry) (leaf : Leaf) (held : HeldLeaves) : Type 0 where
  pub here : List Entry
  pub others : List Entry
  pub rows_are : rows ≡ here ++ others
  pub some : 0 < length here
  pub ahead : IsAhead (page_of held) leaf.at here
  pub left_is : leaf.left ≡ length here
  pub others_are : AreLeaves leaf.more (drop (held.which + 1) held.pages) others
