-- What keeps the plans that hold a chunk counted.
use Rattle.std.specs.{FinMap.empty, Prelude.{◌≡◌, ◌<◌, ◌+◌, ◌^◌, ℕ, suc, List}}
use Rattle.desk_store_rows.specs.{Holders.{AreHoldersBelow, released}, Rows.SameTag, claim.{Holders.{IsHeld, AreTallied, holder_count_row, holding_rows}, Puts.put_rows}}
use Rattle.desk_store_rows.specs.claim.{Keys.{holding, holder_count, in_eight}, Rows.{KeyMap, row_in, Has, Lacks}}

-- in a map without rows each chunk is held by none
abbrev pub NothingIsTallied : Type 0
NothingIsTallied = AreTallied empty

-- they stay counted where the rows of holdings and of their counts do
abbrev pub HolderCountsStay : Type 0
HolderCountsStay = (m n : KeyMap) → SameTag 72 m n → SameTag 75 m n → AreTallied m → AreTallied n

-- A plan that doesn't hold a chunk comes to hold it: its row is put, and the count goes up by one, which fits.
pub record JoinsHolders (m : KeyMap) (limit plan number count : ℕ) : Type 0 where
  pub fits : count + 1 < 2 ^ 64
  pub counted_by_holders : AreTallied (put_rows m (holding_rows plan number count))

abbrev pub HoldersJoin : Type 0
HoldersJoin = (m : KeyMap) (limit plan number count : ℕ) → AreTallied m
    → AreHoldersBelow m limit → limit < 2 ^ 64 → plan < limit → number < 2 ^ 64 → count < 2 ^ 64
    → Lacks m (holding plan number) → row_in m (holder_count number) ≡ holder_count_row count → JoinsHolders m limit plan number count

-- A plan that holds a chunk lets it go: its row is removed, and the count goes down by one, or its row is removed too.
abbrev pub HoldersLeave : Type 0
HoldersLeave = (m : KeyMap) (plan number count : ℕ) → AreTallied m → plan < 2 ^ 64 → number < 2 ^ 64
    → count + 1 < 2 ^ 64 → IsHeld m plan number → row_in m (holder_count number) ≡ holder_count_row (suc count)
    → AreTallied (released m plan number count)

-- a chunk that a plan holds has a count
abbrev pub HeldIsTallied : Type 0
HeldIsTallied = (m : KeyMap) (plan number : ℕ) → AreTallied m → plan < 2 ^ 64 → number < 2 ^ 64
    → IsHeld m plan number → (count : ℕ) × (count + 1 < 2 ^ 64) × Has m (holder_count number) (in_eight (count + 1))

-- a chunk without a count is held by none
abbrev pub NoneHolds : Type 0
NoneHolds = (m : KeyMap) (plan number : ℕ) → AreTallied m → plan < 2 ^ 64 → number < 2 ^ 64 → Lacks m (holder_count number) → IsHeld m plan number → ⊥

-- a chunk with a count, which this plan doesn't hold, is held by another
pub record IsHeldByAnother (m : KeyMap) (plan number : ℕ) : Type 0 where
  pub other : ℕ
  pub fits : other < 2 ^ 64
  pub apart : other ≡ plan → ⊥
  pub held : IsHeld m other number

abbrev pub AnotherHolds : Type 0
AnotherHolds = (m : KeyMap) (plan number : ℕ) (value : List ℕ) → AreTallied m → number < 2 ^ 64
    → Has m (holder_count number) value → Lacks m (holding plan number) → IsHeldByAnother m plan number
