-- What no promise rests on, beside claim/Keys.antt.
use Rattle.std.specs.Prelude.{ℕ, List, [], ◌∷◌}
use Rattle.desk_store_rows.specs.claim.Keys.{in_eight}

abbrev pub parts_prefix : List ℕ
parts_prefix = 82 ∷ []

abbrev pub plan_parts_prefix : ℕ → List ℕ
plan_parts_prefix plan = 82 ∷ in_eight plan

abbrev pub load_prefix : ℕ → List ℕ
load_prefix load = 103 ∷ in_eight load

abbrev pub chunks_prefix : List ℕ
chunks_prefix = 107 ∷ []
