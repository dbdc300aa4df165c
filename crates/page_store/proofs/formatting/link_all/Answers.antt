use Rattle.std.proofs.Common.{rules}
use Rattle.page_store.proofs.formatting.link_all.Goals as goal

pub returns-clause-linked : goal.returns-clause-linked
returns-clause-linked g c = λ honest. search rules
