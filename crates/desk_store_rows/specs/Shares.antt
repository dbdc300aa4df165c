-- What no promise rests on, beside claim/Shares.antt.
use Rattle.std.specs.Prelude.{◌≡◌, ◌<◌, ◌+◌, ◌^◌, ℕ, List, [], ◌∷◌, ◌++◌, Contains}
use Rattle.desk_store_rows.specs.{Holders.AreHoldersBelow, NameRows.name_rows, Rows.SameTag, Steps.{chunks_more, one_revision_more}, claim.Holders.{IsHeld, AreTallied}}
use Rattle.desk_store_rows.specs.claim.{Keys.{key_of, Fits, counters, holding, named}, Puts.{Row, put_rows}, Rows.{KeyMap, row_in, Has}, Shares.hold, Tidy.AreRows}
use Rattle.desk_store_rows.specs.{claim.Values.{counters_bytes, plan_bytes}, declared.value.{Counters.Counters, StoredPlan.StoredPlan}}

abbrev pub hold_all : KeyMap → ℕ → List ℕ → KeyMap
hold_all m plan [] = m
hold_all m plan (number ∷ numbers) = hold_all (hold m plan number) plan numbers

-- holdings of a plan tell nothing but that it holds
abbrev pub AreEmpty : KeyMap → ℕ → Type 0
AreEmpty m plan = (number : ℕ) (value : List ℕ) → Fits (holding plan number) → Has m (holding plan number) value → value ≡ []

-- what a map has to have for that
pub record CanHold (m : KeyMap) (limit plan : ℕ) : Type 0 where
  pub counted_by_holders : AreTallied m
  pub below : AreHoldersBelow m limit
  pub empty : AreEmpty m plan
  pub limit_fits : limit < 2 ^ 64
  pub plan_below : plan < limit

-- and what it has then: all else stays
pub record Holds (m n : KeyMap) (limit plan : ℕ) (numbers : List ℕ) : Type 0 where
  pub can : CanHold n limit plan
  pub held : (number : ℕ) → Contains numbers number → IsHeld n plan number
  pub others : (other number : ℕ) → Fits (holding other number) → ((other ≡ plan) × Contains numbers number → ⊥)
      → row_in n (holding other number) ≡ row_in m (holding other number)
  pub rest : (tag : ℕ) → (tag ≡ 72 → ⊥) → (tag ≡ 75 → ⊥) → SameTag tag m n
  pub rows : AreRows m → AreRows n

-- The rows of a revision that has the chunks of another plan's, and no new one: the plan holds them, its parts name them, and its row
-- tells one revision more.
abbrev pub shared_rows : Counters → List ℕ → StoredPlan → List ℕ → List Row
shared_rows next name p numbers = name_rows p.number (p.revisions + 1) numbers
    ++ (key_of (named name), plan_bytes (one_revision_more p)) ∷ (key_of counters, counters_bytes (chunks_more next 0)) ∷ []

abbrev pub with_shared : KeyMap → Counters → List ℕ → StoredPlan → List ℕ → KeyMap
with_shared m next name p numbers = put_rows (hold_all m p.number numbers) (shared_rows next name p numbers)
