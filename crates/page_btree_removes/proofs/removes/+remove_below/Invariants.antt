use Rattle.page_btree_removes.proofs.removes.+remove_below.Given as goal

abbrev pub decreases-remove_below : goal.decreases-remove_below
decreases-remove_below g l = l.level
