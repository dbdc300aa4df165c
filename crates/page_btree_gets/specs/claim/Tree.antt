-- A tree of pages: a leaf has rows, a node above has children, each after a key. Rows of a child are from its key on, and below
-- the next child's. The first child's key says nothing.
use Rattle.std.specs.{List.AllByRecursion, Prelude.{◌≡◌, ◌⊎◌, ◌<◌, ◌+◌, ◌-◌, ℕ, List, [], ◌∷◌, ◌++◌, length, Option, Some}}
use Rattle.{page_btree_gets.specs.claim.Keys.{IsBetween, Parts}, page_btree_node.specs.claim.{Entries.{Entry, child_bytes}, Node.IsNode, Places.Rises}}
use Rattle.sector_device.specs.claim.Disk.{Image}

mutual
  pub data Tree : Type 0 where
    leaf : ℕ → List Entry → Tree
    inner : ℕ → Forest → Tree

  -- children, each after its key
  pub data Forest : Type 0 where
    one : List ℕ → Tree → Forest
    more : List ℕ → Tree → Forest → Forest

-- the page that it stands at
abbrev pub page_of : Tree → ℕ
page_of (leaf p es) = p
page_of (inner p f) = p

abbrev pub first_key : Forest → List ℕ
first_key (one k t) = k
first_key (more k t f) = k

-- the entries of the node above
abbrev pub links : Forest → List Entry
links (one k t) = (k, child_bytes (page_of t)) ∷ []
links (more k t f) = (k, child_bytes (page_of t)) ∷ links f

abbrev mutual
  pub rows : Tree → List Entry
  rows (leaf p es) = es
  rows (inner p f) = forest_rows f

  pub forest_rows : Forest → List Entry
  forest_rows (one k t) = rows t
  forest_rows (more k t f) = rows t ++ forest_rows f

abbrev mutual
  -- the pages that it stands on
  pub owns : Tree → ℕ → Type 0
  owns (leaf p es) q = q ≡ p
  owns (inner p f) q = (q ≡ p) ⊎ forest_owns f q

  pub forest_owns : Forest → ℕ → Type 0
  forest_owns (one k t) q = owns t q
  forest_owns (more k t f) q = owns t q ⊎ forest_owns f q

abbrev mutual
  -- how many they are
  pub size : Tree → ℕ
  size (leaf p es) = 1
  size (inner p f) = forest_size f + 1

  pub forest_size : Forest → ℕ
  forest_size (one k t) = size t
  forest_size (more k t f) = size t + forest_size f

abbrev mutual
  -- no page stands twice
  pub IsApart : Tree → Type 0
  IsApart (leaf p es) = Unit {0}
  IsApart (inner p f) = (forest_owns f p → ⊥) × AreApart f

  pub AreApart : Forest → Type 0
  AreApart (one k t) = IsApart t
  AreApart (more k t f) = IsApart t × ((q : ℕ) → owns t q → forest_owns f q → ⊥) × AreApart f

-- the page is a leaf with these rows, which rise between the bounds; no leaf is empty
pub record IsLeaf (P : Image) (low : List ℕ) (high : Option (List ℕ)) (p : ℕ) (es : List Entry) : Type 0 where
  pub node : IsNode (P p) (record { level = 0; entries = es })
  pub rises : Rises es
  pub within : AllByRecursion (λ e. IsBetween low high e.0) es
  pub some : 0 < length es

abbrev mutual
  -- the pages hold the tree, whose leaves stand d levels below it and whose keys stand between the bounds
  pub IsTree : Image → ℕ → List ℕ → Option (List ℕ) → Tree → Type 0
  IsTree P d low high (leaf p es) = (d ≡ 0) × IsLeaf P low high p es
  IsTree P d low high (inner p f) = (0 < d) × IsNode (P p) (record { level = d; entries = links f }) × AreTrees P (d - 1) low high f

  pub AreTrees : Image → ℕ → List ℕ → Option (List ℕ) → Forest → Type 0
  AreTrees P d low high (one k t) = IsTree P d low high t
  AreTrees P d low high (more k t f) = IsTree P d low (Some (first_key f)) t × Parts low high (first_key f) × AreTrees P d (first_key f) high f
