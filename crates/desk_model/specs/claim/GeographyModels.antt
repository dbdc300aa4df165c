-- Which blocks and neighbours are a state that can be loaded.
use Rattle.{std.specs.List.Sorted.IsStrictlyIncreasing, desk_model.specs.{claim.{Block.state_of, Geography.{GeographyModel, id_at, ids_of}}, declared.block.BlockRow.BlockRow}}
use Rattle.std.specs.Prelude.{◌≡◌, ◌⊎◌, ◌↔◌, ℕ, ◌+◌, ◌^◌, ◌<◌, ◌≤◌, Bool, ◌&&◌, ◌||◌, ◌==◌, nat_lt, IsTrue, List, length, get_or, sum_by, All, Contains}
use Rattle.desk_model.specs.declared.geography.Pair.{Pair}

-- a store keeps this many blocks at most
abbrev pub block_limit : ℕ
block_limit = 1048576

-- the numbers of a pair's blocks
abbrev pub pair_ids : List BlockRow → Pair → ℕ × ℕ
pair_ids blocks p = (id_at blocks p.first, id_at blocks p.second)

-- at least one block and no more than the limit, rising by number, all of one state, with fewer than 2^32 people
pub record AreBlocks (blocks : List BlockRow) : Type 0 where
  pub some : 0 < length blocks
  pub few : length blocks ≤ block_limit
  pub rising : IsStrictlyIncreasing (ids_of blocks)
  pub one_state : All (λ id. state_of id ≡ state_of (id_at blocks 0)) (ids_of blocks)
  pub people : sum_by (λ b. b.population) blocks < 2 ^ 32

-- two places of a list of that length, the smaller first
pub record IsPair (count : ℕ) (p : Pair) : Type 0 where
  pub first : p.first < count
  pub second : p.second < count
  pub rises : p.first < p.second

-- one pair stands before another, by its first place and then by its second
abbrev pub is_before : Pair → Pair → Bool
is_before p q = nat_lt p.first q.first || ((p.first == q.first) && nat_lt p.second q.second)

-- each pair stands before the next, so each is there once
abbrev pub AreRising : List Pair → Type 0
AreRising pairs = (k : ℕ) (d : Pair) → k + 1 < length pairs → IsTrue (is_before (get_or pairs k d) (get_or pairs (k + 1) d))

-- blocks and a set of pairs of different ones, which is written in one way alone
pub record IsGeographyModel (g : GeographyModel) : Type 0 where
  pub blocks : AreBlocks g.blocks
  pub pairs : All (IsPair (length g.blocks)) g.pairs
  pub rising : AreRising g.pairs

abbrev pub turned : ℕ × ℕ → ℕ × ℕ
turned p = (p.1, p.0)

-- the pair's blocks are told by their numbers, one way round or the other
abbrev pub IsTold : List BlockRow → List (ℕ × ℕ) → Pair → Type 0
IsTold blocks told p = Contains told (pair_ids blocks p) ⊎ Contains told (turned (pair_ids blocks p))

-- the pairs of places are those that numbers tell, in any order and either way round, as often as they like
abbrev pub AreTold : List BlockRow → List (ℕ × ℕ) → List Pair → Type 0
AreTold blocks told pairs = (p : Pair) → Contains pairs p ↔ (IsPair (length blocks) p × IsTold blocks told p)
