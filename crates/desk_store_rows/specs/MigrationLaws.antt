-- From the old version of the rows to the new one: plans come to hold what they name, and then the version is told.
use Rattle.std.specs.{FinMap.{empty, insert}, Prelude.{Bool, true, ◌≡◌, ◌<◌, ◌^◌, ℕ}}
use Rattle.{desk_model.specs.claim.Desk.Desk, desk_store_rows.specs.{Rows.SameTag, Tidy.TidyWith, claim.{DeskRows.IsDesk, Holders.IsHeld, Rows.KeyMap, Shares.hold}}}
use Rattle.desk_store_rows.specs.{claim.{Keys.{key_of, Fits, holding, version, in_four}, Tidy.{no_numbers, IsNamedBy, AllHold, Tidy}}, declared.value.Counters.Counters}

-- a map that tells the new version
abbrev pub as_new : KeyMap → KeyMap
as_new m = insert m (key_of version) (in_four 2)

-- the same desk, in rows of this version
pub record IsMigrated (m : KeyMap) (next : Counters) (new : Bool) (n : KeyMap) : Type 0 where
  pub desk : (d : Desk) → IsDesk m d → IsDesk n d
  pub tidy : TidyWith n next new

-- The plan holds the chunk then; what was held is held still, and all rows but those of holdings and their counts stay.
pub record HoldsNamed (m : KeyMap) (next : Counters) (new : Bool) (plan number : ℕ) (n : KeyMap) : Type 0 where
  pub is : IsMigrated m next new n
  pub held : IsHeld n plan number
  pub still : (other x : ℕ) → Fits (holding other x) → IsHeld m other x → IsHeld n other x
  pub rest : (tag : ℕ) → (tag ≡ 72 → ⊥) → (tag ≡ 75 → ⊥) → SameTag tag m n

-- A plan, also one that was taken away, comes to hold a chunk that a part of it names.
abbrev pub NamedIsHeld : Type 0
NamedIsHeld = (m : KeyMap) (tidy : Tidy m) (plan number : ℕ) → number < 2 ^ 64
    → IsNamedBy m plan number → HoldsNamed m tidy.next tidy.new plan number (hold m plan number)

-- Where each plan holds what it names, the rows may tell the new version.
abbrev pub VersionIsTold : Type 0
VersionIsTold = (m : KeyMap) (tidy : Tidy m) → AllHold m → IsMigrated m tidy.next true (as_new m)

-- a new store has no other row
abbrev pub NewIsTidy : Type 0
NewIsTidy = TidyWith (as_new empty) no_numbers true
