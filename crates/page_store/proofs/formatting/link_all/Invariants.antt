use Rattle.{std.proofs.Common.{◌≡◌, ◌≤◌, ◌*◌, ◌+◌}, gate_journal.specs.{Store.IsSettled, Writes.room_of, claim.Store.pages}, page_store.specs.New.AreLinked}
use Rattle.page_store.proofs.formatting.link_all.Given as goal

abbrev pub invariant-loop-batch : goal.invariant-loop-batch
invariant-loop-batch g l =
    let J = l.layout.journal_pages in
    let n = l.layout.pages in
    let old = g.D.SectorDevice.disk l.initial.device in
    let now = g.D.SectorDevice.disk l.device in
    record {
      sectors : now.sectors ≡ old.sectors;
      honest : now.is_honest → old.is_honest;
      passed : now.is_honest → now.faults ≡ old.faults;
      settled : now.is_honest → IsSettled J n now;
      capacity : 256 ≤ room_of l.writes;
      linked : now.is_honest → AreLinked n (pages J now.reads) 1 (1 + 256 * l.batch);
    }
