-- A walk over parts of revisions, to the chunks that they name and their plans don't hold.
use Rattle.std.specs.{FinMap.{entries, get}, Prelude.{◌≡◌, ◌<◌, ◌++◌, ℕ, Bool, true, false, List, [], ◌∷◌, length, take, Option, Some, None, All}}
use Rattle.desk_migration.specs.{Parts.IsUnderParts, claim.Holding.{AllAreHeld, AreHeldTo, IsUnheld}, declared.parts.{HeldPair.HeldPair, Part.Part, PartLook.PartLook}}
use Rattle.{desk_migration.specs.declared.{parts.PartLook.TheVariants.{Ended, Passed, Found}, walks.UnheldCursor.UnheldCursor}, desk_store_rows.specs.claim.Holders.IsHeld}
use Rattle.desk_store_rows.specs.claim.{Keys.{key_of, Fits, holding, part}, Lists.{AreChunks, chunks_bytes}, Rows.{KeyMap, Lacks}, Tidy.Tidy}
use Rattle.page_btree.specs.node.{Places.entries_from, claim.Entries.Entry}

-- the key that comes next after another one
abbrev pub after : List ℕ → List ℕ
after key = key ++ 0 ∷ []

-- a plan holds a chunk, and both have numbers
abbrev pub HoldsIt : ℕ → KeyMap → ℕ → Type 0
HoldsIt plan m number = Fits (holding plan number) × IsHeld m plan number

abbrev pub HoldsEach : ℕ → List ℕ → KeyMap → Type 0
HoldsEach plan numbers m = All (HoldsIt plan m) numbers

-- parts stand under the walk's key, which is that of one where the walk is within it
abbrev pub StandsUnder : UnheldCursor → Type 0
StandsUnder walk = IsUnderParts walk.from × (walk.is_within ≡ true → length walk.from ≡ 14)

-- the walk's part stands under its key, and its plan holds its first chunks
pub record IsWithin (walk : UnheldCursor) (m : KeyMap) : Type 0 where
  pub revision : ℕ
  pub index : ℕ
  pub fits : Fits (part walk.part.plan revision index)
  pub key_is : walk.from ≡ key_of (part walk.part.plan revision index)
  pub chunks : AreChunks walk.part.numbers.items
  pub row : get m walk.from ≡ Some (chunks_bytes walk.part.numbers.items)
  pub held : HoldsEach walk.part.plan (take walk.place walk.part.numbers.items) m

-- Each part below the walk's key names held chunks alone, as does the one that it passed last.
pub record IsWalking (walk : UnheldCursor) (m : KeyMap) : Type 0 where
  pub tidy : Tidy m
  pub done : AreHeldTo walk.from m
  pub within : walk.is_within ≡ true → IsWithin walk m
  pub seen : HoldsEach walk.seen.plan walk.seen.numbers.items m

-- ---- steps of a walk
-- the part that the walk is within is the first one whose key isn't below the former key
pub record IsNextPart (old new : UnheldCursor) (m : KeyMap) : Type 0 where
  pub within : new.is_within ≡ true
  pub more : List Entry
  pub first : entries_from old.from (entries m) ≡ (new.from, chunks_bytes new.part.numbers.items) ∷ more

-- the walk went into it, or there is none
abbrev pub Enters : Bool → UnheldCursor → UnheldCursor → KeyMap → Type 0
Enters true old new m = IsNextPart old new m
Enters false old new m = AllAreHeld m

-- the plan of a part holds each chunk before this place, or each
abbrev pub IsHeldTo : Part → KeyMap → Option ℕ → Type 0
IsHeldTo of m None = HoldsEach of.plan of.numbers.items m
IsHeldTo of m (Some place) = HoldsEach of.plan (take place of.numbers.items) m

-- what a look at a part came to: fewer rows come after the walk's key where it was passed
abbrev pub Looks : PartLook → UnheldCursor → UnheldCursor → KeyMap → Type 0
Looks Ended old new m = AllAreHeld m
Looks Passed old new m = length (entries_from new.from (entries m)) < length (entries_from old.from (entries m))
Looks (Found pair) old new m = IsUnheld m pair.plan pair.number

-- none is left, or this pair comes next
abbrev pub IsNextPair : KeyMap → Option HeldPair → Type 0
IsNextPair m None = AllAreHeld m
IsNextPair m (Some pair) = IsUnheld m pair.plan pair.number

-- the plan doesn't hold the chunk that was found, if one was
abbrev pub LacksIn : PartLook → KeyMap → Type 0
LacksIn Ended m = Unit {0}
LacksIn Passed m = Unit {0}
LacksIn (Found pair) m = Lacks m (holding pair.plan pair.number)
