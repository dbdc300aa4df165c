-- What a sweep keeps, and what is there once it is done.
use Rattle.std.specs.Prelude.{Bool, ◌≡◌, ◌<◌, ◌^◌, ℕ, List, Contains}
use Rattle.{desk_model.specs.claim.Desk.Desk, desk_store_rows.specs.{Tidy.TidyWith, claim.{DeskRows.IsDesk, Keys.{Fits, retired, begun, part, seal, block, pair, chunk}}}}
use Rattle.desk_store_rows.specs.claim.{RevisionRows.NamesChunks, Rows.{KeyMap, Has, Lacks}, Tidy.{IsNumbered, IsNamedBy, Tidy}, Values.seal_bytes}
use Rattle.desk_store_rows.specs.declared.value.{Counters.Counters, SealRow.SealRow}

-- the numbers of a revision are named by parts of it
abbrev pub NumbersAreNamed : Type 0
NumbersAreNamed = (m : KeyMap) (plan revision : ℕ) (numbers : List ℕ) → plan < 2 ^ 64 → revision < 2 ^ 32
    → NamesChunks m plan revision numbers → (number : ℕ) → Contains numbers number → IsNamedBy m plan number

-- the desk is there as before, and the rows are tidy with the same counters and version
pub record IsSwept (d : Desk) (next : Counters) (new : Bool) (n : KeyMap) : Type 0 where
  pub desk : IsDesk n d
  pub tidy : TidyWith n next new

-- Where no mark of a plan is left, each part and each piece is of a plan that is there; where no mark of a load is left, its rows are
-- the geography's.
pub record IsClean (m : KeyMap) : Type 0 where
  pub parts : ((plan : ℕ) → plan < 2 ^ 64 → Lacks m (retired plan)) → (plan revision index : ℕ) (value : List ℕ)
      → Fits (part plan revision index) → Has m (part plan revision index) value → (name : List ℕ) × IsNumbered m name plan
  pub pieces : ((plan : ℕ) → plan < 2 ^ 64 → Lacks m (retired plan)) → (number piece : ℕ) (value : List ℕ) → Fits (chunk number piece)
      → Has m (chunk number piece) value → (name : List ℕ) × (plan : ℕ) × IsNumbered m name plan × IsNamedBy m plan number
  pub blocks : (load place : ℕ) (value : List ℕ) → Lacks m (begun load) → Fits (block load place)
      → Has m (block load place) value → (sealed : SealRow) × Has m seal (seal_bytes sealed) × (sealed.load ≡ load)
  pub pairs : (load place : ℕ) (value : List ℕ) → Lacks m (begun load) → Fits (pair load place)
      → Has m (pair load place) value → (sealed : SealRow) × Has m seal (seal_bytes sealed) × (sealed.load ≡ load)

abbrev pub SweptIsClean : Type 0
SweptIsClean = (m : KeyMap) → Tidy m → IsClean m
