-- What is read back of a desk row by row, and why it is not.
use Rattle.{std.specs.{BTreeMap.{BTreeMap, Updates, get as count_at}, FinMap.{FinMap, get, insert, len, get as row_at}, Ordering.nat_cmp}, btree_scan.specs.declared.rows.Row.Row}
use Rattle.std.specs.Prelude.{◌≡◌, ◌⊎◌, ◌<◌, ◌≤◌, ◌^◌, ℕ, List, [], Bool, true, Option, Some, None}
use Rattle.desk_model.specs.{Ranges.ranges_in, claim.{Desk.{Desk, Plan, name_cmp}, Geography.GeographyModel, Step.plan_limit}, declared.ranges.CountyRange.CountyRange}
use Rattle.{desk_store_opening.specs.Reading.AreRevisionsShown, desk_store_opening_tidy.specs.Numbers.HasNumbersBelow, desk_store_pages.specs.Reading.StandsAs}
use Rattle.{desk_store_pages.specs.claim.Desks.{InTxnOf, IsMapOf, IsSized, IsWithinLimits}, desk_store_rows.specs.{Changes.{desk_with, plan_row_of}, claim.DeskRows.IsDesk}}
use Rattle.desk_store_rows.specs.claim.{Keys.{key_of, Fits, begun, named, part, retired, seal, version}, Rows.{KeyMap, row_in, Has, Lacks}, Tidy.{IsNumbered, Tidy, version_row}}
use Rattle.{desk_store_rows.specs.{claim.Values.{plan_bytes, seal_bytes}, declared.value.{SealRow.SealRow, StoredPlan.StoredPlan}}, geo_tables.specs.Elements.IsGeographyRead}
use Rattle.{page_btree.specs.gets.declared.error.TreeError.{TreeError, TheVariants.{DeviceFault, NotAStore, Halted, Memory}}, page_store.specs.declared.pages.Pages.Pages}
use Rattle.{page_store.specs.{claim.Transactions.{stored, disk_in, has_halted, HasFailed}, declared.txn.Txn.Txn}, sector_device.specs.declared.SectorDevice.Ghosts}

-- the device failed, or the transaction reads no desk in either version; or a growth was refused
abbrev pub OpenErr : {D : Type 0} {g : Ghosts D} → Txn → Pages D g → Pages D g → TreeError → Type 0
OpenErr t old new DeviceFault = HasFailed old new
OpenErr t old new NotAStore = (disk_in new).is_honest → (new : Bool) (d : Desk) → InTxnOf new t (stored old) d → ⊥
OpenErr t old new Halted = has_halted old ≡ true
OpenErr t old new Memory = Unit {0}
OpenErr t old new _ = ⊥

-- the rows tell a version
abbrev pub HasVersion : KeyMap → Type 0
HasVersion m = (new : Bool) × (row_in m version ≡ version_row new)

-- they are those of a desk, in the version beside it
abbrev pub IsMapAs : KeyMap → Bool × Desk → Type 0
IsMapAs m x = IsMapOf x.0 m x.1

-- the plans of a desk with this geography
pub record ArePlans (g : GeographyModel) (m : KeyMap) (all : FinMap name_cmp Plan) : Type 0 where
  pub desk : IsDesk m (desk_with g all)
  pub tidy : Tidy m
  pub limits : IsWithinLimits (desk_with g all)

-- the row is that of a plan of the desk, which isn't among these and has room beside them
pub record IsNewPlan (g : GeographyModel) (plans : FinMap name_cmp Plan) (row : Row) (m : KeyMap) (plan : List ℕ × Plan) : Type 0 where
  pub all : FinMap name_cmp Plan
  pub desk : IsDesk m (desk_with g all)
  pub tidy : Tidy m
  pub there : get all plan.0 ≡ Some plan.1
  pub sized : IsSized plan.1
  pub key : row.key ≡ key_of (named plan.0)
  pub value : row_at m row.key ≡ Some row.value
  pub new : get plans plan.0 ≡ None
  pub room : len plans < plan_limit

-- the number of the plan whose row this is was not taken away
abbrev pub IsNotGone : Row → KeyMap → Type 0
IsNotGone row m = (p : StoredPlan) → p.number < 2 ^ 64 → row.value ≡ plan_bytes p → Lacks m (retired p.number)

-- and it is the row of a plan
pub record IsKeptPlan (row : Row) (m : KeyMap) : Type 0 where
  pub plan : StoredPlan
  pub fits : plan.number < 2 ^ 64
  pub value : row.value ≡ plan_bytes plan
  pub kept : Lacks m (retired plan.number)

-- no plan was read that has the number of the one whose row this is
abbrev pub IsUnused : BTreeMap ℕ ℕ → Row → Type 0
IsUnused counts row = (p : StoredPlan) → p.number < 2 ^ 64 → row.value ≡ plan_bytes p → count_at nat_cmp counts p.number ≡ None

-- that number was noted beside those of the plans before it, with the count of its revisions
pub record IsNoted (row : Row) (old new : BTreeMap ℕ ℕ) : Type 0 where
  pub plan : StoredPlan
  pub fits : plan.number < 2 ^ 64
  pub count_fits : plan.revisions < 2 ^ 32
  pub value : row.value ≡ plan_bytes plan
  pub unused : count_at nat_cmp old plan.number ≡ None
  pub is : Updates nat_cmp old new plan.number (Some plan.revisions)

abbrev pub NoteErr : Row → BTreeMap ℕ ℕ → TreeError → Type 0
NoteErr row counts NotAStore = (p : StoredPlan) → p.number < 2 ^ 64 → row.value ≡ plan_bytes p → count_at nat_cmp counts p.number ≡ None → ⊥
NoteErr row counts Memory = Unit {0}
NoteErr row counts _ = ⊥

-- the row is that of a plan of the desk that isn't among these, nor its number among theirs
pub record IsFreshPlan (g : GeographyModel) (plans : FinMap name_cmp Plan) (counts : BTreeMap ℕ ℕ) (row : Row) (m : KeyMap) (plan : List ℕ × Plan)
    : Type 0 where
  pub new : IsNewPlan g plans row m plan
  pub unused : IsUnused counts row

-- each number is that of one plan
abbrev pub ArePlansApart : KeyMap → Type 0
ArePlansApart m = (name other : List ℕ) (number : ℕ) → IsNumbered m name number → IsNumbered m other number → name ≡ other

-- the row of the plan with this number counts so many revisions
pub record HasCount (m : KeyMap) (number count : ℕ) : Type 0 where
  pub name : List ℕ
  pub plan : StoredPlan
  pub row : Has m (named name) (plan_bytes plan)
  pub is : plan.number ≡ number
  pub counts : plan.revisions ≡ count
  pub fits : number < 2 ^ 64
  pub count_fits : count < 2 ^ 32

-- so it is of each number, and there is one for each plan
pub record AreCounts (m : KeyMap) (counts : BTreeMap ℕ ℕ) : Type 0 where
  pub are : (number count : ℕ) → count_at nat_cmp counts number ≡ Some count → HasCount m number count
  pub all : (name : List ℕ) (number : ℕ) → IsNumbered m name number → (count : ℕ) × (count_at nat_cmp counts number ≡ Some count)

-- the row of a plan counts this revision
pub record IsRevisionCounted (m : KeyMap) (number revision : ℕ) : Type 0 where
  pub count : ℕ
  pub has : HasCount m number count
  pub some : 0 < revision
  pub few : revision ≤ count

-- so it is of each part of a revision that stands, or its plan was taken away
abbrev pub ArePartsOwned : KeyMap → Type 0
ArePartsOwned m = (plan revision index : ℕ) (value : List ℕ) → Fits (part plan revision index) → Has m (part plan revision index) value
    → IsRevisionCounted m plan revision ⊎ Has m (retired plan) []

-- the sealed load is none of those that were begun
abbrev pub IsSealEnded : KeyMap → Type 0
IsSealEnded m = (sealed : SealRow) → sealed.load < 2 ^ 64 → Has m seal (seal_bytes sealed) → Lacks m (begun sealed.load)

-- and the seal is a row or none
pub record IsSealKept (m : KeyMap) : Type 0 where
  pub value : Option SealRow
  pub stands : StandsAs seal_bytes (key_of seal) m value
  pub ended : IsSealEnded m

-- what the numbers of rows are held to
pub record HasSoundNumbers (m : KeyMap) : Type 0 where
  pub below : HasNumbersBelow m
  pub ended : IsSealEnded m

-- no plan is there, and no geography is sealed
abbrev pub HasNoPlans : KeyMap → Type 0
HasNoPlans m = (name : List ℕ) → Lacks m (named name)

pub record HasNothing (m : KeyMap) : Type 0 where
  pub the_geography : Lacks m seal
  pub plans : HasNoPlans m

-- ---- what is read of rows, whether or not they are those of a desk
-- plans with the one whose row this is
pub record IsAdded (plans : FinMap name_cmp Plan) (row : Row) (all : FinMap name_cmp Plan) : Type 0 where
  pub name : List ℕ
  pub plan : Plan
  pub number : ℕ
  pub key : row.key ≡ key_of (named name)
  pub fits : number < 2 ^ 64
  pub value : row.value ≡ plan_bytes (plan_row_of number plan)
  pub is : all ≡ insert plans name plan

-- the same under a name with this row, and its revisions are what their rows say
pub record IsAddedAs (plans : FinMap name_cmp Plan) (name : List ℕ) (row : StoredPlan) (ranges : List CountyRange) (m : KeyMap) (all : FinMap name_cmp Plan)
    : Type 0 where
  pub plan : Plan
  pub of : row ≡ plan_row_of row.number plan
  pub is : all ≡ insert plans name plan
  pub revisions : AreRevisionsShown row.number ranges m plan

-- the same of a row that was taken
pub record IsListed (plans : FinMap name_cmp Plan) (row : Row) (ranges : List CountyRange) (m : KeyMap) (all : FinMap name_cmp Plan) : Type 0 where
  pub added : IsAdded plans row all
  pub revisions : AreRevisionsShown added.number ranges m added.plan

-- The size of a plan and the count of its revisions stand under its name, its number wasn't taken away, and its revisions are what
-- their rows say.
pub record IsPlanShown (m : KeyMap) (ranges : List CountyRange) (name : List ℕ) (p : Plan) : Type 0 where
  pub number : ℕ
  pub fits : number < 2 ^ 64
  pub row : Has m (named name) (plan_bytes (plan_row_of number p))
  pub kept : Lacks m (retired number)
  pub revisions : AreRevisionsShown number ranges m p

-- such a plan is shown, and none where nothing stands
abbrev pub IsShownAt : KeyMap → List CountyRange → List ℕ → Option Plan → Type 0
IsShownAt m ranges name None = Lacks m (named name)
IsShownAt m ranges name (Some p) = IsPlanShown m ranges name p

abbrev pub ArePlansShown : KeyMap → List CountyRange → FinMap name_cmp Plan → Type 0
ArePlansShown m ranges plans = (name : List ℕ) → IsShownAt m ranges name (get plans name)

-- what the rows of plans, of a load and of the seal say is shown
pub record IsShown (m : KeyMap) (d : Desk) : Type 0 where
  pub the_geography : IsGeographyRead m d.geography
  pub plans : ArePlansShown m (ranges_in d.geography) d.plans
  pub apart : ArePlansApart m

-- No number in use is one that comes next, no row stands where a desk has none, the sealed load is none that was begun, what the
-- rows of the geography, of plans and of their revisions say is shown, and each part of a revision is of one that is counted, or of a plan
-- that was taken away.
pub record IsReadFrom (m : KeyMap) (d : Desk) : Type 0 where
  pub numbers : HasSoundNumbers m
  pub shown : IsShown m d
  pub owned : ArePartsOwned m
