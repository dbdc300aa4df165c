use Rattle.std.proofs.{Common.{◌≡◌, ◌<◌, length, ◌∙◌, arith}, lemmas.{Bool.Decides.nat_tests, List.nil_from_length}}
use Rattle.desk_theorem_lives.proofs.DeskLiving.{popped, same_sectors, was_honest, goes_on, ends, fails_no_less}
use Rattle.desk_theorem_lives.proofs.desk_lives.answer_all.Goals as goal

pub loop-alloc-preserved : goal.loop-alloc-preserved
loop-alloc-preserved g c =
    let l = c.loop-alloc in
    let request = c.remove-request.result in
    let r = c.answered.result in
    let y = c.answered.new.clerk in
    let some : 0 < length l.asked.items = grind (arith, nat_tests, c.is_empty.ensures, c.loop-alloc-test.true) in
    let prefix = popped l.asked.items request c.remove-request.new.self.items some c.remove-request.ensures.value c.remove-request.ensures.items in
    let was = was_honest l.clerk request r y c.answered.ensures in
    record {
      sectors = same_sectors l.clerk request r y c.answered.ensures ∙ l.invariant.sectors;
      honest = λ now. l.invariant.honest (was now);
      stands = λ keeps off honest.
          rw c.in_ok-push.ensures.items
          (goes_on _ _ _ _ _ l.told.items l.clerk request r y l.invariant.sectors honest c.answered.ensures (rw prefix at (l.invariant.stands keeps off (was honest))));
    }

pub returns : goal.returns
returns g c =
    let l = c.loop-alloc in
    let none : length l.asked.items ≡ 0 = grind (arith, nat_tests, c.is_empty.ensures, c.loop-alloc-test.false) in
    let empty = nil_from_length l.asked.items none in
    record {
      sectors = l.invariant.sectors;
      honest = l.invariant.honest;
      faults = λ keeps off honest. fails_no_less _ _ _ _ l.told.items l.clerk (rw empty at (l.invariant.stands keeps off honest));
      lived = λ keeps off honest. ends _ _ _ _ l.told.items l.clerk l.invariant.sectors honest (rw empty at (l.invariant.stands keeps off honest));
    }
