use Rattle.page_btree_gets.proofs.{Outcomes.reads_after, Refusals.get_more}
use Rattle.page_btree_gets.proofs.gets.get.Goals as goal

pub returns-in-None-clause-reading : goal.returns-in-None-clause-reading
returns-in-None-clause-reading g c = search (c.in_ok-length.ensures.reading.passed, reads_after, get_more)
