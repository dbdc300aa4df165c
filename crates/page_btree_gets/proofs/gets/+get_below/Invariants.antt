use Rattle.page_btree_gets.proofs.gets.+get_below.Given as goal

abbrev pub decreases-get_below : goal.decreases-get_below
decreases-get_below g l = l.level
