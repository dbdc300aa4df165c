-- The rows of plans: what is found, and what a change of plans puts.
use Rattle.std.specs.{FinMap.remove, Prelude.{◌<◌, ◌+◌, ◌^◌, ℕ, List, [], ◌∷◌}}
use Rattle.desk_store_rows.specs.{claim.{Keys.{key_of, named, retired}, Puts.{Row, put_rows}, Rows.KeyMap}, declared.value.Counters.Counters}

abbrev pub HasPlanNumber : Counters → Type 0
HasPlanNumber next = next.plan + 1 < 2 ^ 64

abbrev pub HasChunkNumbers : ℕ → Counters → Type 0
HasChunkNumbers used next = next.chunk + used < 2 ^ 64

-- It is taken away, and its number is marked.
abbrev pub retired_rows : ℕ → List Row
retired_rows number = (key_of (retired number), []) ∷ []

abbrev pub retired_map : KeyMap → List ℕ → ℕ → KeyMap
retired_map m name number = put_rows (remove m (key_of (named name))) (retired_rows number)
