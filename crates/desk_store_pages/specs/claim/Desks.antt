-- Pages that hold a desk.
use Rattle.std.specs.Prelude.{Bool, true, false, ◌≡◌, ◌⊎◌, ◌≤◌, ◌+◌, ℕ, List, All, Some}
use Rattle.{desk_model.specs.claim.{Desk.{Plan, Desk}, Sizes.most_districts, Step.plan_limit}, desk_store_rows.specs.claim.{DeskRows.IsDesk, Rows.KeyMap, Tidy.Tidy}}
use Rattle.{page_btree.specs.gets.claim.Map.Holds, page_store.specs.{claim.Chain.{root_in, free_in, IsPages}, declared.{pages.Pages.Pages, txn.Txn.Txn}}}
use Rattle.page_store.specs.{claim.Transactions.{stored, count_of, txn_pages, txn_root, over, free_over}, gate_journal.claim.Store.{home, Opens}}
use Rattle.sector_device.specs.{claim.Disk.Image, declared.SectorDevice.Ghosts}
use Rattle.std.specs.FinMap as map_of

-- no block is in a district above a plan's last
abbrev pub AreWithin : ℕ → List ℕ → Type 0
AreWithin n districts = All (λ d. d ≤ n) districts

-- a number of districts that a plan of its kind may have, and no block in another district
pub record IsSized (p : Plan) : Type 0 where
  pub some : 1 ≤ p.n
  pub most : p.n ≤ most_districts p.kind
  pub within : All (AreWithin p.n) p.revisions

-- a desk has so many plans at most, and each is of a size that plans may have
pub record IsWithinLimits (d : Desk) : Type 0 where
  pub few : map_of.len d.plans ≤ plan_limit
  pub sizes : (name : List ℕ) (p : Plan) → map_of.get d.plans name ≡ Some p → IsSized p

-- the rows are those of the desk, and no others but what is staged or was left behind; they are of the new version, or of the old one
pub record IsMapOf (new : Bool) (m : KeyMap) (d : Desk) : Type 0 where
  pub desk : IsDesk m d
  pub tidy : Tidy m
  pub version : tidy.new ≡ new
  pub limits : IsWithinLimits d

-- n pages with a root and free pages hold the desk in a version
pub record HoldsDeskOf (new : Bool) (n : ℕ) (P : Image) (root : ℕ) (free : List ℕ) (d : Desk) : Type 0 where
  pub m : KeyMap
  pub holds : Holds n P root free m
  pub is : IsMapOf new m d

-- a transaction over stored pages reads it
abbrev pub InTxnOf : Bool → Txn → Image → Desk → Type 0
InTxnOf new t P d = HoldsDeskOf new (txn_pages t) (over t P) (txn_root t) (free_over t P) d

-- stored pages hold it
abbrev pub InPagesOf : {D : Type 0} {g : Ghosts D} → Bool → Pages D g → Desk → Type 0
InPagesOf new ps d = HoldsDeskOf new (count_of ps) (stored ps) (root_in (stored ps)) (free_in (stored ps)) d

-- an image of a store with so many sectors opens to the desk in a version
pub record OpensDeskOf (new : Bool) (sectors : ℕ) (d : Desk) (c : Image) : Type 0 where
  pub J : ℕ
  pub n : ℕ
  pub P : Image
  pub whole : home J + n ≡ sectors
  pub opens : Opens J n P c
  pub holds : HoldsDeskOf new n P (root_in P) (free_in P) d
  pub sound : IsPages n P

-- ---- in the new version, of which a store is unless it is said otherwise
abbrev pub IsDeskMap : KeyMap → Desk → Type 0
IsDeskMap m d = IsMapOf true m d

abbrev pub InTxn : Txn → Image → Desk → Type 0
InTxn t P d = InTxnOf true t P d

abbrev pub InPages : {D : Type 0} {g : Ghosts D} → Pages D g → Desk → Type 0
InPages ps d = InPagesOf true ps d

abbrev pub OpensDesk : ℕ → Desk → Image → Type 0
OpensDesk sectors d c = OpensDeskOf true sectors d c

-- ---- in the old version
abbrev pub IsOldMap : KeyMap → Desk → Type 0
IsOldMap m d = IsMapOf false m d

abbrev pub OpensOld : ℕ → Desk → Image → Type 0
OpensOld sectors d c = OpensDeskOf false sectors d c

-- ---- in either
abbrev pub OpensEither : ℕ → Desk → Image → Type 0
OpensEither sectors d c = OpensDesk sectors d c ⊎ OpensOld sectors d c

abbrev pub OpensAs : ℕ → Bool × Desk → Image → Type 0
OpensAs sectors x c = OpensDeskOf x.0 sectors x.1 c
