-- The values of rows that hold a list of numbers, one after the other, each with its highest byte first.
use Rattle.std.specs.{List.flat_map, Prelude.{◌<◌, ◌≤◌, ◌^◌, ℕ, List, length, All}}
use Rattle.desk_store_rows.specs.claim.Keys.{in_two, in_eight}

-- The chunks that one part of a revision names: some, and 128 at most.
pub record AreChunks (numbers : List ℕ) : Type 0 where
  pub some : 0 < length numbers
  pub most : length numbers ≤ 128
  pub each : All (λ n. n < 2 ^ 64) numbers

abbrev pub chunks_bytes : List ℕ → List ℕ
chunks_bytes numbers = flat_map in_eight numbers

-- The districts that one piece of a chunk holds: some, and 512 at most.
pub record AreDistricts (districts : List ℕ) : Type 0 where
  pub some : 0 < length districts
  pub most : length districts ≤ 512
  pub each : All (λ d. d < 2 ^ 16) districts

abbrev pub districts_bytes : List ℕ → List ℕ
districts_bytes districts = flat_map in_two districts
