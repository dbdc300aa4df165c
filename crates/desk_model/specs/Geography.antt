-- What no promise rests on, beside claim/Geography.antt.
use Rattle.std.specs.Prelude.{◌≢◌, ℕ, ◌<◌, ◌≤◌, List, length, Contains}
use Rattle.desk_model.specs.{claim.Geography.{id_at, ids_of}, declared.block.BlockRow.BlockRow}

-- the numbers are those of two different blocks
pub record AreDifferentBlocks (blocks : List BlockRow) (p : ℕ × ℕ) : Type 0 where
  pub first : Contains (ids_of blocks) p.0
  pub second : Contains (ids_of blocks) p.1
  pub differ : p.0 ≢ p.1

-- blocks below low are smaller, and those from high on are greater
pub record IsBetween (blocks : List BlockRow) (id low high : ℕ) : Type 0 where
  pub within : high ≤ length blocks
  pub below : (k : ℕ) → k < low → id_at blocks k < id
  pub above : (k : ℕ) → high ≤ k → k < length blocks → id < id_at blocks k
