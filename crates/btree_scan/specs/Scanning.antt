-- Which rows of a scan are still to come.
use Rattle.{std.specs.{FinMap.entries, List.starts_with}, btree_scan.specs.{Parts.{page_of, row_in, row_at}, Prefixes.{under, AllFrom, AllUnder}, declared.parts.Parts.Parts}}
use Rattle.std.specs.Prelude.{◌≡◌, ℕ, Bool, true, false, List, [], ◌∷◌, ◌++◌, ◌+◌, length, drop, Option, Some, None, cond, nat_eq, Result, OnOk, IfOk, IfSome}
use Rattle.{btree_scan.specs.declared.{held.HeldLeaves.HeldLeaves, parts.ScanPlace.ScanPlace, rows.Row.Row, scans.RowScan.RowScan}, page_btree.specs.gets.claim.Keys.KeyMap}
use Rattle.page_btree.specs.gets.{Seeking.{bound_in, IsNext, AreLeaves}, claim.Map.InTxn, declared.error.TreeError.{TreeError, TheVariants.{DeviceFault, NotAStore, Halted}}}
use Rattle.{page_btree.specs.{gets.declared.seeks.Leaf.Leaf, node.{Walking.IsAhead, claim.{Entries.Entry, Places.Rises}}}, page_store.specs.declared.pages.Pages.Pages}
use Rattle.{page_store.specs.{claim.Transactions.{stored, disk_in, has_halted, HasFailed, IsQuiet, Passed}, declared.txn.Txn.Txn}, sector_device.specs.declared.SectorDevice.Ghosts}

-- A leaf stands before the rows of which those under the prefix are still to come: some are ahead in its page, others in the leaves
-- that are held with it, and the others after these. They rise, and none is below the prefix. Where the leaves are covered, none
-- of theirs isn't under it.
pub record IsReady (covered : Bool) (prefix : List ℕ) (leaf : Leaf) (held : HeldLeaves) (all rest : List Entry) : Type 0 where
  pub here : List Entry
  pub others : List Entry
  pub after : List Entry
  pub ahead : IsAhead (page_of held) leaf.at here
  pub left_is : leaf.left ≡ length here
  pub others_are : AreLeaves leaf.more (drop (held.which + 1) held.pages) others
  pub next : IsNext (bound_in leaf) all after
  pub rest_are : rest ≡ under prefix (here ++ (others ++ after))
  pub rises : Rises (here ++ (others ++ after))
  pub from : AllFrom prefix (here ++ (others ++ after))
  pub covers : covered ≡ true → AllUnder prefix (here ++ others)

abbrev pub RestWhere : Bool → Bool → List ℕ → Leaf → HeldLeaves → List Entry → List Entry → Type 0
RestWhere true covered prefix leaf held all rest = rest ≡ []
RestWhere false covered prefix leaf held all rest = IsReady covered prefix leaf held all rest

-- of all rows of a map these are still to come
abbrev pub Rest : RowScan → List Entry → List Entry → Type 0
Rest scan all rest = RestWhere scan.ended scan.covered scan.prefix scan.leaf scan.held all rest

abbrev pub has_ended : RowScan → Bool
has_ended scan = scan.ended

abbrev pub fault_in : RowScan → Option TreeError
fault_in scan = scan.fault

-- ---- at a place in its leaf
-- it hasn't ended, and each row of its leaf is under the prefix
abbrev pub is_open : RowScan → Bool
is_open scan = cond scan.ended false scan.covered

-- a place has rows of such a leaf alone
abbrev pub FitsIn : RowScan → ScanPlace → Type 0
FitsIn scan place = is_open scan ≡ false → place.left ≡ 0

-- a leaf that stands at a place
abbrev pub leaf_at : Leaf → ScanPlace → Leaf
leaf_at leaf place = record leaf { at = place.at; left = place.left }

-- a scan whose leaf does
abbrev pub moved_to : RowScan → ScanPlace → RowScan
moved_to scan place = record scan { leaf = leaf_at scan.leaf place }

abbrev pub stood_at : RowScan → ScanPlace → RowScan
stood_at scan place = cond (is_open scan) (moved_to scan place) scan

-- ----
-- a call took the first of them, or there is none
abbrev pub IsNextRow : Bool → RowScan → Row → List Entry → List Entry → Type 0
IsNextRow true scan row all rest = (more : List Entry) × (rest ≡ (row.key, row.value) ∷ more) × Rest scan all more
IsNextRow false scan row all rest = fault_in scan ≡ None → rest ≡ []

module _ {D : Type 0} {g : Ghosts D} where
  -- why no row is read, where a map has what is needed
  abbrev pub ScanErr : (KeyMap → Type 0) → Txn → Pages D g → Pages D g → TreeError → Type 0
  ScanErr can t old new DeviceFault = HasFailed old new
  ScanErr can t old new NotAStore = (disk_in new).is_honest → (m : KeyMap) → InTxn t (stored old) m → can m → ⊥
  ScanErr can t old new Halted = has_halted old ≡ true
  ScanErr can t old new _ = ⊥

-- the scan is one of the map
abbrev pub CanScan : RowScan → KeyMap → Type 0
CanScan scan m = (rest : List Entry) × Rest scan (entries m) rest

-- ---- within a call
abbrev pub CanStep : Bool → List ℕ → Leaf → HeldLeaves → KeyMap → Type 0
CanStep covered prefix leaf held m = (rest : List Entry) × IsReady covered prefix leaf held (entries m) rest

-- a key that begins with the prefix bounds the leaf's rows
abbrev pub IsWithin : List ℕ → Leaf → Type 0
IsWithin prefix leaf = (bound : List ℕ) × (bound_in leaf ≡ Some bound) × (starts_with nat_eq bound prefix ≡ true)

abbrev pub IsStep : Bool → Bool → List ℕ → Leaf → HeldLeaves → Row → List Entry → List Entry → Type 0
IsStep true covered prefix leaf held row all rest = (more : List Entry)
    × (rest ≡ (row.key, row.value) ∷ more) × IsReady covered prefix leaf held all more
IsStep false covered prefix leaf held row all rest = rest ≡ []

-- a row was taken, and these are ahead after it
pub record IsTakenRow (e : Entry) (es : List Entry) (row : Row) (page : List ℕ) (at : ℕ) : Type 0 where
  pub key_is : row.key ≡ e.0
  pub value_is : row.value ≡ e.1
  pub ahead : IsAhead page at es

-- whether its leaves are covered, the leaf in which it stands, and those that are held
abbrev pub Standing : Type 0
Standing = Bool × Leaf × HeldLeaves

-- ---- what calls do, where the scan is one of a map of the transaction and the device is honest
module _ {D : Type 0} {g : Ghosts D} where
  -- the first of the rows that are still to come was taken, or there is none
  abbrev pub TakesNextRow : Txn → Pages D g → Pages D g → RowScan → RowScan → Row → Bool → Type 0
  TakesNextRow t old new was scan row found =
      (disk_in new).is_honest → (m : KeyMap) (rest : List Entry) → InTxn t (stored old) m → Rest was (entries m) rest
      → IsNextRow found scan row (entries m) rest

  -- What a call of a scan says: the pages were only read, and a fault that is kept ends the scan. One that has ended changes nothing.
  pub record ScansOn (t : Txn) (old new : Pages D g) (was scan : RowScan) (row : Row) (found : Bool) : Type 0 where
    pub quiet : IsQuiet old new
    pub rows : TakesNextRow t old new was scan row found
    pub passed : fault_in scan ≡ None → Passed old new
    pub fault : fault_in was ≡ None → IfSome (fault_in scan) (λ e. ScanErr (CanScan was) t old new e)
    pub going : found ≡ true → (has_ended scan ≡ false) × (fault_in scan ≡ fault_in was)
    pub ended : found ≡ false → has_ended scan ≡ true
    pub kept : has_ended was ≡ true → (scan ≡ was) × (new ≡ old)

  -- a step took the first of them, which is that of the parts, or there is none
  abbrev pub Steps : {E : Type 0} → List ℕ → Txn → Pages D g → Pages D g → Standing → Standing → Parts → Result Bool E → Type 0
  Steps prefix t old new was is parts result =
      (disk_in new).is_honest → (m : KeyMap) (rest : List Entry) → InTxn t (stored old) m
      → IsReady was.0 prefix was.1 was.2 (entries m) rest
      → IfOk result (λ found. IsStep found is.0 prefix is.1 is.2 (row_at (page_of is.2) parts) (entries m) rest)

  -- the same rows are still to come, and some of them are ahead in the leaf, where there are any
  abbrev pub Refills : {T E : Type 0} → List ℕ → Txn → Pages D g → Pages D g → Standing → Standing → Result T E → Type 0
  Refills prefix t old new was is result =
      (disk_in new).is_honest → (m : KeyMap) (rest : List Entry) → InTxn t (stored old) m
      → IsReady was.0 prefix was.1 was.2 (entries m) rest
      → OnOk result (IsReady is.0 prefix is.1 is.2 (entries m) rest × (is.1.left ≡ 0 → rest ≡ []))

  -- the same, where some of them may be in leaves that were read with it alone
  abbrev pub ReadsOn : {T E : Type 0} → List ℕ → Txn → Pages D g → Pages D g → Standing → Standing → Result T E → Type 0
  ReadsOn prefix t old new was is result =
      (disk_in new).is_honest → (m : KeyMap) (rest : List Entry) → InTxn t (stored old) m
      → IsReady was.0 prefix was.1 was.2 (entries m) rest
      → OnOk result (IsReady is.0 prefix is.1 is.2 (entries m) rest × (is.1.left ≡ 0 → is.1.more ≡ 0 → rest ≡ []))

-- at a place in its leaf the first of them was taken, where there is one in the leaf
abbrev pub TakesRowAt : RowScan → ScanPlace → ScanPlace → Option Parts → Type 0
TakesRowAt scan was place taken =
    (all rest : List Entry) → FitsIn scan was → Rest (stood_at scan was) all rest
    → IfSome taken (λ parts. IsNextRow true (stood_at scan place) (row_in scan parts) all rest)
