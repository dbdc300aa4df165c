-- What no promise rests on, beside claim/Holders.antt.
use Rattle.std.specs.{FinMap.{insert, remove}, Prelude.{◌<◌, ◌+◌, ◌^◌, ℕ, zero, suc}}
use Rattle.desk_store_rows.specs.claim.{Holders.IsHeld, Keys.{key_of, holding, holder_count, in_eight}, Rows.KeyMap}

-- the plans that hold a chunk have numbers below this one
abbrev pub AreHoldersBelow : KeyMap → ℕ → Type 0
AreHoldersBelow m limit = (plan number : ℕ) → plan < 2 ^ 64 → number < 2 ^ 64 → IsHeld m plan number → plan < limit

-- with so many plans told of a chunk
abbrev pub with_holder_count : KeyMap → ℕ → ℕ → KeyMap
with_holder_count m number zero = remove m (key_of (holder_count number))
with_holder_count m number (suc more) = insert m (key_of (holder_count number)) (in_eight (more + 1))

-- the plan no longer holds the chunk, which so many others still do
abbrev pub released : KeyMap → ℕ → ℕ → ℕ → KeyMap
released m plan number count = with_holder_count (remove m (key_of (holding plan number))) number count
