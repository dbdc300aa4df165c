use Rattle.{std.proofs.Common.{◌∙◌, refl}, gate_journal.{specs.claim.{Store.overlay, Writes.writes_of}, proofs.Images.put_on}, page_store.proofs.Chains.meta_words}
use Rattle.page_store.proofs.formatting.put_meta.Goals as goal

pub returns-clause-meta : goal.returns-clause-meta
returns-clause-meta c = λ P. meta_words c.set_word.new.sector c.set_word-2.new.sector c.set_word-3.new.sector _ _ _ c.set_word.ensures.set c.set_word-2.ensures.set c.set_word-3.ensures.set
    c.set_word-2.ensures.others c.set_word-3.ensures.others (overlay (writes_of c.put_in_room.new.writes) P)
    (c.put_in_room.ensures.written P 0 ∙ put_on (0, c.set_word-3.new.sector) (overlay (writes_of c.clear.new.self) P) 0 refl)
