-- What readers of a device find of its store.
use Rattle.std.specs.{Prelude.{◌≡◌, ◌⊎◌, ◌<◌, ℕ, Bool, true, false, List, Option, Some, IfSome, Vec}, declared.alloc.Global.Global}
use Rattle.{desk_model.specs.{Ranges.ranges_in, claim.Desk.Desk, declared.ranges.CountyRange.CountyRange}, desk_store.specs.desk_store_opening.Opening.IsReadFrom}
use Rattle.{desk_store.specs.plan_revisions_sweeps.claim.Checks.AreSoundHoldings, desk_store_opening.specs.Checking.TellsDesk, desk_store_rows.specs.claim.Keys.{version, in_four}}
use Rattle.{desk_store_rows.specs.claim.Rows.{KeyMap, Has}, page_btree.specs.{checks.Owners.AreOwned, gets.claim.Map.Holds}, page_store.specs.claim.Chain.{root_in, free_in}}
use Rattle.page_store.specs.{claim.Transactions.{stored, disk_in, count_of, IsQuiet}, declared.pages.Pages.Pages, gate_journal.Recovery.{Found, HasRoom}}
use Rattle.{page_store.specs.gate_journal.{claim.Store.{header_of, pages}, declared.error.PageError.PageError}, sector_device.specs.claim.Disk.{Disk, Image}}
use Rattle.{sector_device.specs.declared.SectorDevice.Ghosts, store_verification.specs.declared.{jobs.SeenRows.SeenRows, look.Look.{Look, TheVariants.{Sound, Unsound, Failed}}}}
use Rattle.store_verification_rows.specs.{Strays.AllBelong, Wholes.AreWhole}
use Rattle.page_store.specs.gate_journal.declared.error.PageError.TheVariants as page

-- ---- what is found in pages, which are so many
-- the pages hold rows, of which this is so
abbrev pub OfRows : ℕ → Image → (KeyMap → Type 0) → Type 0
OfRows n P is = (m : KeyMap) → Holds n P (root_in P) (free_in P) m → is m

-- each page has one owner
abbrev pub HasOwners : ℕ → Image → ℕ → Type 0
HasOwners n P rows = AreOwned n P

-- the rows tell the new version, and a desk that has these counties
pub record TellsNewDesk (ranges : List CountyRange) (m : KeyMap) : Type 0 where
  pub version : Has m version (in_four 2)
  pub tells : TellsDesk ranges m

abbrev pub HasDesk : ℕ → Image → Vec CountyRange Global → Type 0
HasDesk n P ranges = OfRows n P (TellsNewDesk ranges.items)

-- there are so many rows, each belongs beside these counties, and chunks are counted and held
pub record TellsRows (rows : ℕ) (ranges : List CountyRange) (m : KeyMap) : Type 0 where
  pub whole : AreWhole rows m
  pub belong : AllBelong ranges m
  pub holdings : AreSoundHoldings m

abbrev pub HasSeen : ℕ → Image → SeenRows → Type 0
HasSeen n P seen = OfRows n P (TellsRows seen.rows seen.ranges.items)

-- pages were only read, and if something was found, this is so of them
pub record Finds {D X : Type 0} {g : Ghosts D} (finds : ℕ → Image → X → Type 0) (old new : Pages D g) (result : Option X) : Type 0 where
  pub quiet : IsQuiet old new
  pub found : (disk_in new).is_honest → IfSome result (λ x. finds (count_of old) (stored old) x)

-- ---- what comes of one look
-- pages were opened and only read, and this was found in them
pub record IsSeen {X : Type 0} (finds : ℕ → Image → X → Type 0) (old new : Disk) (x : X) : Type 0 where
  pub J : ℕ
  pub n : ℕ
  pub room : HasRoom old.sectors J n
  pub found : new.is_honest → Found J n old new
  pub seen : new.is_honest → finds n (pages J new.reads) x

abbrev pub LooksAs : {X : Type 0} → (ℕ → Image → X → Type 0) → Disk → Disk → Look X → Type 0
LooksAs finds old new (Sound x) = IsSeen finds old new x
LooksAs finds old new Unsound = Unit {0}
LooksAs finds old new Failed = new.is_honest → old.faults < new.faults

-- so it does, and the device keeps its size
pub record LooksBy {X : Type 0} (finds : ℕ → Image → X → Type 0) (old new : Disk) (look : Look X) : Type 0 where
  pub sectors : new.sectors ≡ old.sectors
  pub looked : LooksAs finds old new look

abbrev pub IsUnopened : {X : Type 0} → PageError → Look X → Type 0
IsUnopened e (Sound x) = ⊥
IsUnopened e Unsound = Unit {0}
IsUnopened e Failed = e ≡ page.DeviceFault

abbrev pub IsLookOf : {X : Type 0} → Option X → Bool → Look X → Type 0
IsLookOf found is_halted (Sound x) = (is_halted ≡ false) × (found ≡ Some x)
IsLookOf found is_halted Unsound = Unit {0}
IsLookOf found is_halted Failed = is_halted ≡ true

-- ---- what comes of three
pub record IsAllSound (owners : Look ℕ) (desk : Look (Vec CountyRange Global)) (rows : Look SeenRows) (count : ℕ) : Type 0 where
  pub leaves : ℕ
  pub ranges : Vec CountyRange Global
  pub seen : SeenRows
  pub owners_are : owners ≡ Sound leaves
  pub desk_is : desk ≡ Sound ranges
  pub rows_are : rows ≡ Sound seen
  pub same : ranges.items ≡ seen.ranges.items
  pub count_is : count ≡ seen.rows

abbrev pub IsJoined : Look ℕ → Look (Vec CountyRange Global) → Look SeenRows → Look ℕ → Type 0
IsJoined owners desk rows (Sound count) = IsAllSound owners desk rows count
IsJoined owners desk rows Unsound = Unit {0}
IsJoined owners desk rows Failed = (owners ≡ Failed) ⊎ ((desk ≡ Failed) ⊎ (rows ≡ Failed))

-- Rows tell the new version; an opening reads a desk of them; there are so many, and each belongs beside the counties of the desk; chunks
-- are counted, and held by the plans that name them.
pub record IsSoundDesk (rows : ℕ) (m : KeyMap) : Type 0 where
  pub version : Has m version (in_four 2)
  pub desk : Desk
  pub read : IsReadFrom m desk
  pub whole : AreWhole rows m
  pub belong : AllBelong (ranges_in desk.geography) m
  pub holdings : AreSoundHoldings m

-- an image of a store, each of whose pages has one owner, and whose rows are those of a desk
pub record IsSoundAt (sectors : ℕ) (c : Image) (rows : ℕ) : Type 0 where
  pub J : ℕ
  pub n : ℕ
  pub room : HasRoom sectors J n
  pub header : c 0 ≡ header_of J n
  pub owned : AreOwned n (pages J c)
  pub sound : OfRows n (pages J c) (IsSoundDesk rows)

-- where the device kept to its model, what it reads is such an image; or it failed
abbrev pub LooksWhole : Disk → Disk → Look ℕ → Type 0
LooksWhole old new (Sound rows) = new.is_honest → IsSoundAt old.sectors old.reads rows
LooksWhole old new Unsound = Unit {0}
LooksWhole old new Failed = new.is_honest → old.faults < new.faults
