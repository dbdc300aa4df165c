use Rattle.{std.proofs.Common.◌∙◌, gate_journal.specs.claim.Writes.writes_of, page_store.proofs.Made.new_store}
use Rattle.page_store.proofs.formatting.format.Goals as goal

pub returns-clause-new : goal.returns-clause-new
returns-clause-new g c = λ honest. new_store _ (writes_of c.put_meta.new.writes) c.in_ok-made.ensures.layout (c.commit_on.ensures.sectors ∙ c.link_all.ensures.formats.sectors)
    c.in_ok-made.ensures.linked (c.in_ok-commit_on.ensures.model honest) c.put_meta.ensures.meta c.put_meta.ensures.others
