-- Rows of a store that are counted.
use Rattle.std.specs.{FinMap.entries, Prelude.{◌≡◌, ◌⊎◌, ◌<◌, Bool, true, false, length}}
use Rattle.{btree_scan.specs.Prefixes.under, desk_store_pages.specs.Openings.AllDesks, desk_store_rows.specs.claim.Keys.{holder_counts_prefix, retired_prefix, begun_prefix}}
use Rattle.{desk_store_rows.specs.claim.Rows.KeyMap, inspect_command.specs.declared.rows.Rows.Rows, page_btree.specs.gets.claim.Map.InPages}
use Rattle.page_store.specs.{claim.Transactions.{disk_in, device_in, count_of, journal_of}, declared.pages.Pages.Pages, gate_journal.Recovery.Found}
use Rattle.{sector_device.specs.declared.SectorDevice.Ghosts, store_command.specs.declared.fault.StoreFault.{StoreFault, TheVariants.{NotAStore, DeviceFault, Memory}}}

-- a row for each chunk that plans hold, for each plan that was taken away, and for each load that was begun and isn't sealed
pub record AreCounted (m : KeyMap) (rows : Rows) : Type 0 where
  pub chunks : rows.chunks ≡ length (under holder_counts_prefix (entries m))
  pub deleted : rows.deleted_plans ≡ length (under retired_prefix (entries m))
  pub stopped : rows.stopped_loads ≡ length (under begun_prefix (entries m))

-- rows that aren't counted are none of a store where no failure halted the pages
abbrev pub fault_of_rows : Bool → StoreFault
fault_of_rows true = DeviceFault
fault_of_rows false = NotAStore

module _ {D : Type 0} {g : Ghosts D} where
  -- rows that are a map's aren't read only where the device failed
  abbrev pub AreUnread : Pages D g → Pages D g → Type 0
  AreUnread old new = (disk_in new).is_honest → (m : KeyMap) → InPages old m → (disk_in old).faults < (disk_in new).faults

module _ {D : Type 0} (g : Ghosts D) where
  -- memory was refused; the device failed; or it held what may be no desk
  abbrev pub IsUncounted : (device left : D) → StoreFault → Type 0
  IsUncounted device left fault = (fault ≡ Memory)
      ⊎ (((fault ≡ DeviceFault) × ((g.disk left).is_honest → (g.disk device).faults < (g.disk left).faults))
      ⊎ ((fault ≡ NotAStore) × ((g.disk left).is_honest → AllDesks (g.disk device) → ⊥)))

  -- The pages of the store that the device held were opened, and given back as they were: the rows are theirs.
  pub record CountsRows (device : D) (rows : Rows) (left : D) : Type 0 where
    pub ps : Pages D g
    pub back : left ≡ device_in ps
    pub found : (g.disk left).is_honest → Found (journal_of ps) (count_of ps) (g.disk device) (g.disk left)
    pub pages : rows.pages ≡ count_of ps
    pub counted : (g.disk left).is_honest → (m : KeyMap) → InPages ps m → AreCounted m rows
