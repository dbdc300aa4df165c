-- A scan that goes along while rows are read by their places.
use Rattle.std.specs.{FinMap.{entries, get as row_at}, Prelude.{◌≡◌, ℕ, List, [], ◌∷◌, Bool, true, false, Some}}
use Rattle.{btree_scan.specs.{Scanning.Rest, declared.{rows.Row.Row, scans.RowScan.RowScan}}, desk_store_rows.specs.claim.Rows.KeyMap, page_btree.specs.node.claim.Entries.Entry}

-- each of some rows is one of the map
abbrev pub AreIn : KeyMap → List Entry → Type 0
AreIn m [] = Unit {0}
AreIn m (e ∷ es) = (row_at m e.0 ≡ Some e.1) × AreIn m es

-- a scan of rows of the map
abbrev pub Scans : RowScan → KeyMap → Type 0
Scans scan m = (rest : List Entry) × Rest scan (entries m) rest × AreIn m rest

-- a row that was found is one of the map
abbrev pub IsFound : Bool → Row → KeyMap → Type 0
IsFound true row m = row_at m row.key ≡ Some row.value
IsFound false row m = Unit {0}

-- a row with this key and value
abbrev pub at_hand : (key value : List ℕ) → Row
at_hand key value = record { key = key; value = value }

pub record IsTaken (found : Bool) (scan : RowScan) (row : Row) (m : KeyMap) : Type 0 where
  pub scans : Scans scan m
  pub row_is : IsFound found row m
