-- What calls tell: relations over values before and after a call, and its result.
use Rattle.std.specs.Prelude.{◌≡◌, ◌<◌, ◌≤◌, ◌^◌, ◌↔◌, ℕ, Bool, true, false, List, length, take, drop, get_or, Option, Some, None, Result, IfOk, IfSome}
use Rattle.{btree_scan.specs.declared.rows.Row.Row, desk_migration.specs.{Parts.IsPartRow, Puts.{AndStand, HasHeld, HasHeldAs, HoldErr, HoldErrOf, HoldsMore, IsTurn}}}
use Rattle.desk_migration.specs.{TurningBack.{IsTakenFirst, IsWithout}, Walks.{Enters, HoldsEach, HoldsIt, IsHeldTo, IsNextPair, IsWalking, LacksIn, Looks}}
use Rattle.desk_migration.specs.{claim.{Holding.{AllAreHeld, AreHeldTo}, Migrating.{disk_of, HasMore, HasRows}}, declared.{migration.Migration.Migration, parts.HeldPair.HeldPair}}
use Rattle.{desk_migration.specs.declared.{parts.{Part.Part, PartLook.PartLook}, walks.UnheldCursor.UnheldCursor}, desk_model.specs.claim.Desk.Desk}
use Rattle.{desk_store_pages.specs.{Outcomes.Writes, claim.Desks.{IsOldMap, InTxnOf}, declared.error.StoreError.StoreError}, desk_store_rows.specs.claim.Keys.{holding, in_eight}}
use Rattle.{desk_store_rows.specs.claim.{Lists.{AreChunks, chunks_bytes}, Rows.{KeyMap, Lacks}, Tidy.Tidy}, page_btree.specs.gets.claim.Map.{InPages, InTxn}}
use Rattle.{page_btree.specs.{gets.declared.error.TreeError.TreeError, puts.declared.finger.Fingers.Fingers}, page_store.specs.claim.Transactions.{stored, disk_in, Passed}}
use Rattle.{page_store.specs.declared.{pages.Pages.Pages, txn.Txn.Txn}, sector_device.specs.declared.SectorDevice.Ghosts}

-- the bytes of a row are those of a part
pub record IsReadAs (row : Row) (of : Part) : Type 0 where
  pub long : length row.key ≡ 14
  pub plan : in_eight of.plan ≡ take 8 (drop 1 row.key)
  pub fits : of.plan < 2 ^ 64
  pub chunks : AreChunks of.numbers.items
  pub value : chunks_bytes of.numbers.items ≡ row.value

abbrev pub ReadsPart : Row → Option Part → Type 0
ReadsPart row None = IsPartRow row → ⊥
ReadsPart row (Some of) = IsReadAs row of

-- the part is of this plan, and names this chunk at this place
abbrev pub IsNamedAt : Part → ℕ → ℕ → ℕ → Type 0
IsNamedAt of plan place number = (of.plan ≡ plan) × (place < length of.numbers.items) × (get_or of.numbers.items place 0 ≡ number)

-- ---- what a look tells of a map
-- the plan doesn't hold the chunk, or does, where it holds those of the part seen before
abbrev pub IsToldAt : Part → ℕ → ℕ → KeyMap → Bool → Type 0
IsToldAt seen plan number m is = (is ≡ false → Lacks m (holding plan number))
    × (Tidy m → HoldsEach seen.plan seen.numbers.items m → is ≡ true → HoldsIt plan m number)

abbrev pub IsFirstUnheld : Part → Part → ℕ → KeyMap → Option ℕ → Type 0
IsFirstUnheld of seen from m found = IfSome found (λ place. Lacks m (holding of.plan (get_or of.numbers.items place 0)))
    × (Tidy m × HoldsEach seen.plan seen.numbers.items m × HoldsEach of.plan (take from of.numbers.items) m → IsHeldTo of m found)

abbrev pub EntersPart : UnheldCursor → UnheldCursor → KeyMap → Bool → Type 0
EntersPart walk next m found = IsWalking walk m → IsWalking next m × Enters found walk next m

abbrev pub LooksAt : UnheldCursor → UnheldCursor → KeyMap → PartLook → Type 0
LooksAt walk next m look = LacksIn look m × (IsWalking walk m → IsWalking next m × Looks look walk next m)

abbrev pub FindsNext : UnheldCursor → UnheldCursor → KeyMap → Option HeldPair → Type 0
FindsNext walk next m found = IfSome found (λ pair. Lacks m (holding pair.plan pair.number))
    × (IsWalking walk m → IsWalking next m × IsNextPair m found)

module _ {D : Type 0} {g : Ghosts D} where
  -- ---- pairs that come to be held
  -- where both fingers stood: both stand then
  abbrev pub HoldsNext : Fingers → Fingers → UnheldCursor → UnheldCursor → Txn → Txn → Pages D g → Pages D g → Result Bool TreeError → Type 0
  HoldsNext were fs walk next t u old new result =
      Writes (λ found. IsTurn found (AndStand (IsWalking walk) were t (stored old)) (AndStand (IsWalking next) fs u (stored old)) t u old new)
      (HoldErrOf 1 (AndStand (IsWalking walk) were t (stored old)) t old new) u old new result

  abbrev pub HoldsAlong : UnheldCursor → UnheldCursor → Txn → Txn → Pages D g → Pages D g → Result ℕ TreeError → Type 0
  HoldsAlong walk next t u old new result =
      Writes (λ count. (count ≤ 8) × HasHeldAs (count < 8) count (IsWalking walk) (IsWalking next) t u old new) (HoldErrOf 8 (IsWalking walk) t old new) u old new result

  abbrev pub HoldsPairs : List ℕ → List ℕ → Txn → Txn → Pages D g → Pages D g → Result ℕ TreeError → Type 0
  HoldsPairs from next t u old new result =
      Writes (λ count. (count ≤ 8) × HasHeld (count < 8) count from next t u old new) (HoldErr 8 from t old new) u old new result

  -- ---- rows of a commit, and of a step
  abbrev pub PutsHoldings : List ℕ → List ℕ → Pages D g → Pages D g → Result ℕ StoreError → Type 0
  PutsHoldings from next old new result =
      (disk_in new).is_honest → (m : KeyMap) (d : Desk) → InPages old m → IsOldMap m d
      → AreHeldTo from m → IfOk result (λ count. HoldsMore count m d next new)

  abbrev pub PutsMore : Migration D g → Migration D g → Result ℕ StoreError → Type 0
  PutsMore x y result = (disk_of y).is_honest → (d : Desk) (m : KeyMap) → HasRows x d m → IfOk result (λ count. HasMore x d m count y)

  -- none was put where each chunk was held, and there alone
  abbrev pub TellsEnd : Migration D g → Migration D g → Result ℕ StoreError → Type 0
  TellsEnd x y result = (disk_of y).is_honest → (d : Desk) (m : KeyMap) → HasRows x d m → IfOk result (λ count. (count ≡ 0) ↔ AllAreHeld m)

  -- ---- rows that are taken out
  abbrev pub TakesFirst : ℕ → Txn → Txn → Pages D g → Pages D g → Result Bool TreeError → Type 0
  TakesFirst tag t u old new result =
      Writes (λ found. Passed old new × ((disk_in new).is_honest → (m : KeyMap) → InTxn t (stored old) m → IsTakenFirst found tag u (stored old) m))
      (λ e. Unit {0}) u old new result

  abbrev pub TakesAll : {T : Type 0} → ℕ → Txn → Txn → Pages D g → Pages D g → Result T TreeError → Type 0
  TakesAll tag t u old new result =
      Writes (λ _. Passed old new × ((disk_in new).is_honest → (m : KeyMap) → InTxn t (stored old) m → IsWithout tag u (stored old) m))
      (λ e. Unit {0}) u old new result

  abbrev pub TakesVersion : {T : Type 0} → Txn → Txn → Pages D g → Pages D g → Result T TreeError → Type 0
  TakesVersion t u old new result =
      Writes (λ _. Passed old new × ((disk_in new).is_honest → (d : Desk) → InTxnOf true t (stored old) d → InTxnOf false u (stored old) d))
      (λ e. Unit {0}) u old new result
