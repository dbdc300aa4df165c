-- What is read where rows are read one after the other.
use Rattle.std.{specs.{Option.option_map, Ordering.is_gt, Prelude.{◌≡◌, ◌<◌, ℕ, List, [], ◌∷◌, ◌++◌, length, drop, Option, Some, None, cond}}, proofs.Common.{get_or, zero, suc}}
use Rattle.{page_btree_gets.specs.{claim.{Keys.IsBetween, Tree.{Tree, Forest, leaf, inner, one, more, first_key}}, declared.seeks.Leaf.Leaf}, page_btree_node.specs.Walking.IsAhead}
use Rattle.page_btree_node.specs.{Entries.child_in, Places.{floor, ceiling, entries_from}, claim.{Entries.Entry, Node.IsNode, Places.{key_cmp, Rises}}}

-- the key from which on the rows of the leaves behind it are, or none where it is the last
abbrev pub bound_in : Leaf → Option (List ℕ)
bound_in held = cond held.bounded (Some held.bound) None

-- the rows after a leaf among all
abbrev pub IsNext : Option (List ℕ) → List Entry → List Entry → Type 0
IsNext None all after = after ≡ []
IsNext (Some bound) all after = after ≡ entries_from bound all

-- leaves of which each has rows, in pages one after the other: these are their rows
abbrev pub AreLeaves : ℕ → List (List ℕ) → List Entry → Type 0
AreLeaves zero pages rows = rows ≡ []
AreLeaves (suc k) [] rows = ⊥
AreLeaves (suc k) (page ∷ pages) rows = (es : List Entry) × (rest : List Entry) × (rows ≡ es ++ rest)
    × IsNode page (record { level = 0; entries = es }) × Rises es × (0 < length es) × AreLeaves k pages rest

-- A leaf stands before the rows from a key on: some of them are ahead in its page, others in the leaves that were read with it, and
-- the others are after these. Where none is ahead, and no leaf was read with it, there is none.
pub record IsFrom (key : List ℕ) (all : List Entry) (held : Leaf) (pages : List (List ℕ)) : Type 0 where
  pub here : List Entry
  pub others : List Entry
  pub after : List Entry
  pub ahead : IsAhead (get_or {A = List ℕ} pages 0 []) held.at here
  pub left_is : held.left ≡ length here
  pub others_are : AreLeaves held.more (drop 1 pages) others
  pub rows_are : entries_from key all ≡ here ++ (others ++ after)
  pub next : IsNext (bound_in held) all after
  pub some : held.left ≡ 0 → held.more ≡ 0 → after ≡ []

-- ---- within a call
-- the bound of a child, or that of its node
abbrev pub nearer : Option (List ℕ) → Option (List ℕ) → Option (List ℕ)
nearer None high = high
nearer (Some bound) high = Some bound

-- the rows of the leaf in whose range a key falls
abbrev mutual
  pub leaf_of : Tree → List ℕ → List Entry
  leaf_of (leaf p es) key = es
  leaf_of (inner p f) key = forest_leaf f key

  pub forest_leaf : Forest → List ℕ → List Entry
  forest_leaf (one k t) key = leaf_of t key
  forest_leaf (more k t f) key = cond (is_gt (key_cmp (first_key f) key)) (leaf_of t key) (forest_leaf f key)

-- and the upper end of that range
abbrev mutual
  pub bound_of : Tree → Option (List ℕ) → List ℕ → Option (List ℕ)
  bound_of (leaf p es) high key = high
  bound_of (inner p f) high key = forest_bound f high key

  pub forest_bound : Forest → Option (List ℕ) → List ℕ → Option (List ℕ)
  forest_bound (one k t) high key = bound_of t high key
  forest_bound (more k t f) high key = cond (is_gt (key_cmp (first_key f) key)) (bound_of t (Some (first_key f)) key) (forest_bound f high key)

-- so many leaves that follow it lie in pages one after the other, each with the rows from the last one's bound on, which is a key
-- below the tree's upper end; and this is the bound of the last
abbrev pub Follows : Tree → Option (List ℕ) → Option (List ℕ) → List ℕ → ℕ → List (List ℕ) → Option (List ℕ) → Type 0
Follows t high up key zero pages bound = bound ≡ bound_of t up key
Follows t high up key (suc k) [] bound = ⊥
Follows t high up key (suc k) (page ∷ pages) bound = (b : List ℕ) × (bound_of t up key ≡ Some b) × IsBetween key high b
    × IsNode page (record { level = 0; entries = leaf_of t b }) × Rises (leaf_of t b)
    × (0 < length (leaf_of t b)) × Follows t high up b k pages bound

-- that leaf was read, as far as its rows aren't below the key, with leaves that follow it
pub record IsRead (t : Tree) (high up : Option (List ℕ)) (key : List ℕ) (held : Leaf) (pages : List (List ℕ)) : Type 0 where
  pub ahead : IsAhead (get_or {A = List ℕ} pages 0 []) held.at (entries_from key (leaf_of t key))
  pub left_is : held.left ≡ length (entries_from key (leaf_of t key))
  pub follows : Follows t high up key held.more (drop 1 pages) (bound_in held)

-- children of a node that follow one another, from the one that a key belongs to on, and the key after the last
abbrev pub AreWays : ℕ → List ℕ → List Entry → List ℕ → Option (List ℕ) → Type 0
AreWays k key es [] bound = ⊥
AreWays zero key es (child ∷ children) bound = (option_map child_in (floor key es) ≡ Some child) × (ceiling key es ≡ bound)
AreWays (suc k) key es (child ∷ children) bound = (option_map child_in (floor key es) ≡ Some child)
    × (b : List ℕ) × (ceiling key es ≡ Some b) × AreWays k b es children bound

pub record HasWays (key : List ℕ) (es : List Entry) (up : Option (List ℕ)) (held : Leaf) (children : List ℕ) : Type 0 where
  pub bound : Option (List ℕ)
  pub ways : AreWays held.more key es children bound
  pub bound_is : bound_in held ≡ nearer bound up
