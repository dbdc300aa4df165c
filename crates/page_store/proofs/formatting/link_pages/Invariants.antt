use Rattle.{std.proofs.Common.{◌≡◌, ◌≢◌, ◌≤◌, ◌<◌, ◌+◌, ℕ, length, replicate}, gate_journal.specs.{Store.IsWithin, Writes.room_of, claim.{Store.{overlay, word}, Writes.writes_of}}}
use Rattle.{page_store.specs.New.AreLinked, sector_device.specs.claim.Disk.Image}
use Rattle.page_store.proofs.formatting.link_pages.Given as goal

abbrev pub invariant-loop-p : goal.invariant-loop-p
invariant-loop-p l = record {
  few : length (writes_of l.writes) + l.from ≤ l.p;
  room : 256 ≤ room_of l.writes;
  within : IsWithin (writes_of l.writes) l.pages;
  linked : (P : Image) → AreLinked l.pages (overlay (writes_of l.writes) P) l.from l.p;
  blank : (k : ℕ) → k ≢ 0 → word l.link k ≡ word (replicate 4096 0) k;
  others : (P : Image) (q : ℕ) → q < l.from → overlay (writes_of l.writes) P q ≡ P q;
}
