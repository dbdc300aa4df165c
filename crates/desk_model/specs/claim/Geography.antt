-- A state's blocks, and which of them share an edge.
use Rattle.{std.specs.Prelude.{ℕ, List, map, get_or}, desk_model.specs.declared.{block.BlockRow.BlockRow, geography.Pair.Pair}}

-- The blocks, rising by number, and the pairs of neighbours. A block is told by its place in the list, from 0.
pub record GeographyModel : Type 0 where
  pub blocks : List BlockRow
  pub pairs : List Pair

abbrev pub ids_of : List BlockRow → List ℕ
ids_of blocks = map (λ b. b.id) blocks

abbrev pub ids : GeographyModel → List ℕ
ids g = ids_of g.blocks

-- the number of the block at a place
abbrev pub id_at : List BlockRow → ℕ → ℕ
id_at blocks place = get_or (ids_of blocks) place 0
