-- Trees of blocks: each block points to itself or to a lower block of its tree.
use Rattle.std.specs.Prelude.{◌≡◌, ℕ, ◌<◌, ◌≤◌, ◌^◌, ◌==◌, if◌then◌else◌, List, length, get_or, min, max, take, All}
use Rattle.{audit_contiguity.specs.claim.Paths.{IsIn, AreJoined}, desk_model.specs.declared.geography.Pair.Pair}

-- both places of a pair are within a list of that length
pub record LiesWithin (count : ℕ) (q : Pair) : Type 0 where
  pub first : q.first < count
  pub second : q.second < count

-- the pairs are of the plan's blocks, which a number of 32 bits can tell
pub record ArePairsOf (plan : List ℕ) (pairs : List Pair) : Type 0 where
  pub within : All (LiesWithin (length plan)) pairs
  pub few : length plan < 2 ^ 32

abbrev pub PointsDown : List ℕ → Type 0
PointsDown parents = (i : ℕ) → i < length parents → get_or parents i 0 ≤ i

-- each block is a tree of its own
pub record AreAlone (count : ℕ) (parents : List ℕ) : Type 0 where
  pub long : length parents ≡ count
  pub own : (i : ℕ) → i < count → get_or parents i 0 ≡ i

-- root tells the lowest block of each block's tree
pub record IsRooting (root : ℕ → ℕ) (parents : List ℕ) : Type 0 where
  pub low : (i : ℕ) → i < length parents → root i ≤ i
  pub kept : (i : ℕ) → i < length parents → root (get_or parents i 0) ≡ root i
  pub own : (i : ℕ) → i < length parents → get_or parents (root i) 0 ≡ root i
  pub top : (i : ℕ) → i < length parents → get_or parents i 0 ≡ i → root i ≡ i

-- the roots after the tree of one root was hung on another
abbrev pub merged : (ℕ → ℕ) → ℕ → ℕ → ℕ → ℕ
merged root low high i = if root i == high then low else root i

-- a block that has a parent, among parents that point down
pub record HasParent (parents : List ℕ) (block : ℕ) : Type 0 where
  pub inside : block < length parents
  pub down : PointsDown parents

-- a block's root, with the way to it made shorter: the roots are those that were
pub record IsRootOf (old : List ℕ) (block : ℕ) (parents : List ℕ) (found : ℕ) : Type 0 where
  pub inside : found < length old
  pub down : PointsDown parents
  pub rooting : (root : ℕ → ℕ) → IsRooting root old → IsRooting root parents
  pub is : (root : ℕ → ℕ) → IsRooting root old → found ≡ root block

-- the trees of two blocks were joined under the lower of their roots
pub record WereJoined (old : List ℕ) (one other : ℕ) (parents : List ℕ) : Type 0 where
  pub down : PointsDown parents
  pub rooting : (root : ℕ → ℕ) → IsRooting root old → IsRooting (merged root (min (root one) (root other)) (max (root one) (root other))) parents

-- a pair within one of the districts from first to last has one root
abbrev pub HasOneRoot : (ℕ → ℕ) → List ℕ → ℕ → ℕ → Pair → Type 0
HasOneRoot root plan first last p = (d : ℕ) → first ≤ d → d ≤ last → IsIn plan d p.first → IsIn plan d p.second → root p.first ≡ root p.second

-- Each block is joined to its root by a path within its district, and the two blocks of each of the first pairs, where they lie in one
-- district, have one root.
pub record IsForest (pairs : List Pair) (plan : List ℕ) (first last count : ℕ) (parents : List ℕ) : Type 0 where
  pub placed : ArePairsOf plan pairs
  pub long : length parents ≡ length plan
  pub down : PointsDown parents
  pub root : ℕ → ℕ
  pub rooting : IsRooting root parents
  pub joined : (i d : ℕ) → IsIn plan d i → AreJoined pairs plan d i (root i)
  pub closed : All (HasOneRoot root plan first last) (take count pairs)
