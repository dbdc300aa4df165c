-- The rows under a prefix are rows of the map.
use Rattle.{std.specs.{FinMap.entries, Prelude.{Option, IfSome}}, btree_scan.specs.{Prefixes.under, Scanning.{Rest, IsNextRow, ScanErr, fault_in, has_ended, CanScan}}}
use Rattle.{std.proofs.Common.{◌≡◌, ◌++◌, ℕ, List, [], ◌∷◌, Bool, true, false, Some, None, refl, sym, subst, ◌∙◌, append_assoc, arith}, btree_scan.specs.declared.rows.Row.Row}
use Rattle.{btree_scan.specs.declared.scans.RowScan.RowScan, desk_store_pages.specs.Reading.ReadErr, desk_store_rows.specs.claim.Rows.KeyMap, page_store.specs.declared.txn.Txn.Txn}
use Rattle.{geo_tables.specs.Following.{AreIn, IsFound, IsTaken, Scans}, page_btree.specs.{gets.declared.error.TreeError.TreeError, node.claim.Entries.Entry}}
use Rattle.{page_store.specs.declared.pages.Pages.Pages, sector_device.specs.declared.SectorDevice.Ghosts, btree_scan.proofs.{RowsFound.next_under, Scanning.none_to_come}}

-- those that follow some of the rows under a prefix
rest_in : (m : KeyMap) (prefix : List ℕ) (taken es : List Entry) → under prefix (entries m) ≡ taken ++ es → AreIn m es
rest_in m prefix taken [] whole = tt
rest_in m prefix taken (e ∷ es) whole =
    ((next_under m prefix taken e es whole).there, rest_in m prefix (taken ++ e ∷ []) es (whole ∙ sym (append_assoc taken (e ∷ []) es)))

pub all_in : (m : KeyMap) (prefix : List ℕ) → AreIn m (under prefix (entries m))
all_in m prefix = rest_in m prefix [] (under prefix (entries m)) refl

-- a call of a scan took a row of the map, or none is left
module _ (m : KeyMap) (old new : RowScan) (row : Row) where
  pub taken_so : (found : Bool) → (found ≡ false → has_ended new ≡ true) → fault_in new ≡ None → Scans old m → ((rest : List Entry) → Rest old (entries m) rest → IsNextRow found new row (entries m) rest) → IsTaken found new row m
  taken_so found ended none scans next = search (arith, next, none_to_come, ended)

-- a row that is found has the key and the value of another one
pub found_same : (m : KeyMap) (found : Bool) (row taken : Row) → row.key ≡ taken.key → row.value ≡ taken.value → IsFound found taken m → IsFound found row m
found_same m found row taken key value is = search (arith)

-- a fault of a scan, told of the map
module _ {D : Type 0} {g : Ghosts D} (old : RowScan) (t : Txn) (a b : Pages D g) where
  pub fault_unread : (kept : Option TreeError) (fault : TreeError) → kept ≡ Some fault → IfSome kept (λ e. ScanErr (CanScan old) t a b e) → ReadErr (Scans old) t a b fault
  fault_unread kept fault is why = search (arith, (subst (λ (o : Option TreeError). IfSome o (λ e. ScanErr (CanScan old) t a b e)) is why))
