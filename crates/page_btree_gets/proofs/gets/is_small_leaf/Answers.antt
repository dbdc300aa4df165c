use Rattle.{std.proofs.Common.{◌∙◌, arith}, page_store.proofs.Chains.blank_words}
use Rattle.page_btree_gets.proofs.gets.is_small_leaf.Goals as goal

pub returns-then-page-le8-clause-used : goal.returns-then-page-le8-clause-used
returns-then-page-le8-clause-used c = λ is blank. c.if-used-eq0.false (c.word_at-used.ensures ∙ blank_words c.args.page.now blank 1 (omega arith) (omega arith))
