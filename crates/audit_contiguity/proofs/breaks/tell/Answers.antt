use Rattle.{std.proofs.Common.{◌<◌, ◌≤◌, ◌+◌, length, arith, refl}, audit_contiguity.proofs.Telling.{told_break, told_whole, told_all, no_block, together, gap_there, id_here}}
use Rattle.audit_contiguity.proofs.breaks.tell.Goals as goal
use Rattle.audit_contiguity.proofs.breaks.tell.Goals.{in-Zero+in_ok-push-in-Zero, in-One, in-Two+in_ok-push-in-Two}

pub loop-k-preserved : goal.loop-k-preserved
loop-k-preserved c =
    let g = c.args.geography.now in
    let d = c.args.first + c.loop-k.k in
    let inside : c.loop-k.k < length c.args.lowest.now = c.loop-k-test.true in
    let to : d ≤ c.args.last = omega (arith, c.requires.lowest_are.long) in
    let here = c.requires.lowest_are.each c.loop-k.k (omega (arith, c.requires.lowest_are.long)) in
    elim c.match-roots.branch [
      | in-Zero+in_ok-push-in-Zero w ↦
          rw (w.breaks-is, w.in_ok-push-in-Zero.ensures.items, w.empty.ensures)
          (told_break c.loop-k.invariant _ refl to (no_block g c.requires.forest d (rw w.in-Zero.is at here)))
      | in-One w ↦ rw w.breaks-is (told_whole c.loop-k.invariant (together g c.requires.forest d w.in-One.field-0 (rw w.in-One.is at here)))
      | in-Two+in_ok-push-in-Two w ↦
          let two = rw w.in-Two.is at here in
          rw (w.breaks-is, w.in_ok-push-in-Two.ensures.items, w.parted.ensures)
          (told_break c.loop-k.invariant _ refl to
          (gap_there g c.requires.forest d w.in-Two.least w.in-Two.next two _ (omega arith) to
          (id_here g.blocks c.blocks-blocks.result.now w.in-Two.least w.index-blocks-least.result c.blocks-blocks.ensures.value (omega (arith, c.requires.beside, two.0.early)))
          (id_here g.blocks c.blocks-blocks.result.now w.in-Two.next w.index-blocks-next.result c.blocks-blocks.ensures.value (omega (arith, c.requires.beside, two.1.early)))))
    ]

pub returns : goal.returns
returns c = told_all c.loop-k.invariant (omega (arith, c.requires.lowest_are.long))
