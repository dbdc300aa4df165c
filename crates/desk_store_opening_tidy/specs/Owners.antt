-- Which plans the parts of revisions are of.
use Rattle.{std.specs.{BTreeMap.{BTreeMap, get as count_at}, FinMap.entries, List.starts_with, Ordering.nat_cmp}, desk_store_opening_tidy.specs.{Rows.NoneFrom, claim.Rows.IsFrom}}
use Rattle.std.specs.Prelude.{◌≡◌, ◌<◌, ◌≤◌, ℕ, List, [], ◌∷◌, ◌++◌, length, nat_eq, Option, None, Some, Bool, true, false}
use Rattle.{desk_store_rows.specs.{Keys.parts_prefix, claim.{Keys.{key_of, Fits, part, retired}, Rows.{KeyMap, Has}, Tidy.AreRows}}, page_btree.specs.node.Places.entries_from}
use Rattle.page_btree.specs.node.claim.Entries.{Entry}

-- the revision is one of so many; a plan of which no count is known was taken away
abbrev pub IsOwnedAs : KeyMap → ℕ → ℕ → Option ℕ → Type 0
IsOwnedAs m plan revision None = Has m (retired plan) []
IsOwnedAs m plan revision (Some count) = (0 < revision) × (revision ≤ count)

-- so it is beside the counts of the revisions of plans by their numbers
abbrev pub IsOwned : BTreeMap ℕ ℕ → KeyMap → ℕ → ℕ → Type 0
IsOwned counts m plan revision = IsOwnedAs m plan revision (count_at nat_cmp counts plan)

-- so it is of each part of a revision that stands
abbrev pub AreOwnedBy : BTreeMap ℕ ℕ → KeyMap → Type 0
AreOwnedBy counts m = (plan revision index : ℕ) (value : List ℕ) → Fits (part plan revision index) → Has m (part plan revision index) value
    → IsOwned counts m plan revision

-- where keys are those of rows, too
pub record HasOwners (counts : BTreeMap ℕ ℕ) (m : KeyMap) : Type 0 where
  pub rows : AreRows m
  pub owned : AreOwnedBy counts m

-- ---- the plans that have parts, one after the other
-- a key under which parts of revisions stand
abbrev pub IsUnderParts : List ℕ → Type 0
IsUnderParts key = starts_with nat_eq key parts_prefix ≡ true

-- the key is that of a part of this revision of this plan
pub record IsPartKey (plan revision : ℕ) (key : List ℕ) : Type 0 where
  pub index : ℕ
  pub fits : Fits (part plan revision index)
  pub is : key ≡ key_of (part plan revision index)

-- the first part from a key on is one of this revision of this plan; or there is none
abbrev pub IsNextPart : List ℕ → KeyMap → Option (ℕ × ℕ) → Type 0
IsNextPart from m None = NoneFrom from parts_prefix m
IsNextPart from m (Some of) = (e : Entry) × (more : List Entry) × (entries_from from (entries m) ≡ e ∷ more) × IsPartKey of.0 of.1 e.0

-- the plan may have parts of each revision from one on to the last
pub record IsOwnedTo (counts : BTreeMap ℕ ℕ) (m : KeyMap) (plan revision last : ℕ) : Type 0 where
  pub within : revision ≤ last
  pub owned : (other : ℕ) → revision ≤ other → other ≤ last → IsOwned counts m plan other

-- a key after the parts of a revision, and below each other one after these
abbrev pub after_revision : ℕ → ℕ → List ℕ
after_revision plan revision = key_of (part plan revision 255) ++ 0 ∷ []

-- so it is of each part whose key is below this one
abbrev pub AreOwnedBelow : BTreeMap ℕ ℕ → List ℕ → KeyMap → Type 0
AreOwnedBelow counts from m = (plan revision index : ℕ) (value : List ℕ) → Fits (part plan revision index) → Has m (part plan revision index) value
    → (IsFrom from (key_of (part plan revision index)) → ⊥) → IsOwned counts m plan revision

-- so it is before one goes on; or there is no part after it
abbrev pub Passes : Bool → BTreeMap ℕ ℕ → List ℕ → List ℕ → KeyMap → Type 0
Passes true counts from next m = AreOwnedBelow counts next m × (length (entries_from next (entries m)) < length (entries_from from (entries m)))
Passes false counts from next m = AreOwnedBy counts m
