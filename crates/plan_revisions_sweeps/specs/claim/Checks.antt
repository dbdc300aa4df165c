-- Whether chunks are counted, and held by the plans that name them.
use Rattle.std.specs.Prelude.{◌⊎◌, ℕ, []}
use Rattle.desk_store_rows.specs.claim.{Holders.{IsHeld, AreTallied}, Keys.retired, Rows.{KeyMap, Has}, Tidy.IsNamedBy}

-- the plan holds the chunk, or it was taken away
abbrev pub IsHeldOrGone : KeyMap → ℕ → ℕ → Type 0
IsHeldOrGone m plan number = IsHeld m plan number ⊎ Has m (retired plan) []

abbrev pub AreNamesHeld : KeyMap → Type 0
AreNamesHeld m = (plan number : ℕ) → IsNamedBy m plan number → IsHeldOrGone m plan number

-- The count of each chunk is that of the plans that hold it, and a plan that wasn't taken away holds each chunk that a part of it names.
pub record AreSoundHoldings (m : KeyMap) : Type 0 where
  pub counted_by_holders : AreTallied m
  pub named : AreNamesHeld m
