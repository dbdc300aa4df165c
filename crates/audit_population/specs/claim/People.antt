-- The people of a plan's districts. A plan has the district of each block beside it, where 0 is none.
use Rattle.std.specs.{List.{zip, range_with_len}, Prelude.{ℕ, ◌==◌, if◌then◌else◌, List, map, sum_by}}
use Rattle.desk_model.specs.declared.block.BlockRow.{BlockRow}

-- the people of the blocks that the plan gives to a district
abbrev pub people_in : List BlockRow → List ℕ → ℕ → ℕ
people_in blocks plan d = sum_by (λ p. if p.1 == d then p.0.population else 0) (zip blocks plan)

-- districts 1 to n
abbrev pub districts : ℕ → List ℕ
districts n = range_with_len 1 n

-- the people of districts 1 to n, in that order
abbrev pub populations_of : List BlockRow → List ℕ → ℕ → List ℕ
populations_of blocks plan n = map (people_in blocks plan) (districts n)

-- the people of the state, whether a district has them or not
abbrev pub state_people : List BlockRow → ℕ
state_people blocks = sum_by (λ b. b.population) blocks
