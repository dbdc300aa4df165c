use Rattle.page_btree_gets.proofs.seeks.+leaf_below.Given as goal

abbrev pub decreases-leaf_below : goal.decreases-leaf_below
decreases-leaf_below g l = l.level
