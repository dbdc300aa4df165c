-- Districts that hold together (Iowa Code 42.4(3)). Blocks are told by their places; a plan has the district of each block beside it.
use Rattle.std.specs.Prelude.{◌≡◌, ℕ, ◌<◌, ◌⊎◌, ⊤, List, [], ◌∷◌, length, get_or, All, Contains}
use Rattle.desk_model.specs.declared.geography.Pair.{Pair}

-- two blocks share an edge: they are a pair, in the one order or the other
abbrev pub AreNeighbours : List Pair → ℕ → ℕ → Type 0
AreNeighbours pairs a b = Contains pairs (record { first = a; second = b }) ⊎ Contains pairs (record { first = b; second = a })

-- A path is a non-empty list of blocks, here the first and the rest of them, in which each two that follow one another are neighbours.
abbrev pub IsPath : List Pair → ℕ → List ℕ → Type 0
IsPath pairs a [] = ⊤
IsPath pairs a (b ∷ rest) = AreNeighbours pairs a b × IsPath pairs b rest

-- the block at which a path ends
abbrev pub end_of : ℕ → List ℕ → ℕ
end_of a [] = a
end_of a (b ∷ rest) = end_of b rest

-- the plan gives the block to the district
pub record IsIn (plan : List ℕ) (d a : ℕ) : Type 0 where
  pub within : a < length plan
  pub given : get_or plan a 0 ≡ d

-- two blocks are the ends of a path whose blocks all lie in the district
pub record AreJoined (pairs : List Pair) (plan : List ℕ) (d a b : ℕ) : Type 0 where
  pub rest : List ℕ
  pub path : IsPath pairs a rest
  pub ends : end_of a rest ≡ b
  pub inside : All (IsIn plan d) (a ∷ rest)

-- a district has a block, and any two of its blocks are the ends of such a path
pub record HoldsTogether (pairs : List Pair) (plan : List ℕ) (d : ℕ) : Type 0 where
  pub some : (a : ℕ) × IsIn plan d a
  pub joined : (a b : ℕ) → IsIn plan d a → IsIn plan d b → AreJoined pairs plan d a b
