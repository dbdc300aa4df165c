-- What a making of a store asks for, and what it comes to.
use Rattle.std.specs.Prelude.{◌≡◌, ◌≤◌, ◌+◌, ℕ, length, Result, OnOk, IfErr}
use Rattle.gate_journal.specs.{Store.IsWithin, Writes.room_of, claim.{Store.home, Writes.writes_of}, declared.writes.PageWrites.PageWrites}
use Rattle.sector_device.specs.declared.SectorDevice.{Ghosts}
pub use Rattle.gate_journal.specs.Format.{IsJournalSize}

-- The device keeps its size. At Ok it didn't fail, and it has room for the journal and 64 pages.
pub record FormatsDevice {D A E : Type 0} (g : Ghosts D) (journal : ℕ) (refused : E → Type 0) (old new : D) (result : Result A E) : Type 0 where
  pub sectors : (g.disk new).sectors ≡ (g.disk old).sectors
  pub honest : (g.disk new).is_honest → (g.disk old).is_honest
  pub passed : (g.disk new).is_honest → OnOk result ((g.disk new).faults ≡ (g.disk old).faults)
  pub ok : OnOk result (home journal + 64 ≤ (g.disk old).sectors)
  pub err : IfErr result refused

-- a batch of at most so many pages of a new store, with room for 256
pub record IsPageBatch (most pages : ℕ) (writes : PageWrites) : Type 0 where
  pub few : length (writes_of writes) ≤ most
  pub within : IsWithin (writes_of writes) pages
  pub room : 256 ≤ room_of writes
