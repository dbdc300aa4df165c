use Rattle.{std.proofs.Common.{arith, le_trans}, gate_journal.proofs.Images.put_off, page_store.proofs.{Chains.link_blank, Linked.linked_more}}
use Rattle.page_store.proofs.formatting.link_pages.Goals as goal

pub loop-p-preserved : goal.loop-p-preserved
loop-p-preserved c =
    let before = c.loop-p.invariant in
    let one = c.put_in_room.ensures in
    search (arith, le_trans, linked_more, link_blank, before.linked, before.blank, before.others, one.written, one.within, put_off, c.set_word.ensures.others)
