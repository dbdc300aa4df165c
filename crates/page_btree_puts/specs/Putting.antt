-- What a put does to a part of a tree.
use Rattle.std.specs.{FinMap.{find, put}, Ordering.is_gt, Prelude.{◌≡◌, ◌≢◌, ◌⊎◌, ◌<◌, ◌≤◌, ◌+◌, ◌*◌, ℕ, Bool, List, [], ◌∷◌, ◌++◌, length, cond, Option, Some, None, is_some}}
use Rattle.page_btree_gets.specs.claim.{Keys.IsBetween, Map.IsSound, Tree.{Tree, Forest, one, more, IsTree, AreTrees, AreApart, page_of, forest_rows, forest_owns, forest_size}}
use Rattle.{page_btree_gets.specs.node.{Entries.key_at, claim.{Entries.{Entry, child_bytes}, Node.{Node, IsNode}, Places.key_cmp}}, page_store.specs.claim.Chain.{IsIn, AreFree}}
use Rattle.{page_store.specs.{claim.Transactions.{txn_writes, txn_free}, declared.txn.Txn.Txn}, sector_device.specs.claim.Disk.Image}

-- free before, and not after
abbrev pub IsTaken : List ℕ → List ℕ → ℕ → Type 0
IsTaken free left q = IsIn q free × (IsIn q left → ⊥)

-- Children became others as the pages went from P to Q and free pages were taken: the rows are those with the row put, and
-- nothing else was written than pages of theirs and pages that were taken.
pub record IsPut (P Q : Image) (d : ℕ) (low : List ℕ) (high : Option (List ℕ))
    (free left : List ℕ) (key value : List ℕ) (had : Bool) (f g : Forest) : Type 0 where
  pub trees : AreTrees Q d low high g
  pub apart : AreApart g
  pub rows_are : forest_rows g ≡ put key_cmp key value (forest_rows f)
  pub had_is : had ≡ is_some (find key_cmp key (forest_rows f))
  pub owned : (q : ℕ) → forest_owns g q → forest_owns f q ⊎ IsTaken free left q
  pub frame : (q : ℕ) → (forest_owns f q → ⊥) → (IsTaken free left q → ⊥) → Q q ≡ P q
  pub fewer : (q : ℕ) → IsIn q left → IsIn q free
  pub rest : (n : ℕ) → AreFree n free → AreFree n left
  pub whole : forest_size g + length left ≡ forest_size f + length free

-- a node was written whole
pub record IsWhole (P Q : Image) (free left : List ℕ) (page : ℕ) (node : Node) : Type 0 where
  pub holds : IsNode (Q page) node
  pub elsewhere : (q : ℕ) → q ≢ page → Q q ≡ P q
  pub none : left ≡ free

-- or it was cut in two, of which the upper half stands on a page that was free
pub record IsCut (P Q : Image) (free left : List ℕ) (page right : ℕ) (node upper : Node) : Type 0 where
  pub lower : List Entry
  pub both : lower ++ upper.entries ≡ node.entries
  pub level : upper.level ≡ node.level
  pub some : (0 < length lower) × (0 < length upper.entries)
  pub holds : IsNode (Q page) (record { level = node.level; entries = lower })
  pub beside : IsNode (Q right) upper
  pub elsewhere : (q : ℕ) → q ≢ page → q ≢ right → Q q ≡ P q
  pub taken : free ≡ right ∷ left

abbrev pub IsWritten : Image → Image → List ℕ → List ℕ → ℕ → Option ℕ → Node → Node → Type 0
IsWritten P Q free left page None node upper = IsWhole P Q free left page node
IsWritten P Q free left page (Some right) node upper = IsCut P Q free left page right node upper

-- links put after that of the child that a key belongs to
abbrev pub after_child : List ℕ → List Entry → List Entry → List Entry
after_child key new [] = new
after_child key new (e ∷ es) = cond (is_gt (key_cmp e.0 key)) (new ++ e ∷ es) (e ∷ after_child key new es)

abbrev pub linked : List ℕ → List Entry → List Entry → List Entry
linked key new [] = []
linked key new (e ∷ es) = e ∷ after_child key new es

-- it is one tree at the page, or two, of which the other one stands at a page of its own after the upper half's first key
abbrev pub IsOneOrTwo : List ℕ → ℕ → Option ℕ → Node → Forest → Type 0
IsOneOrTwo k page None upper g = (t : Tree) × (g ≡ one k t) × (page_of t ≡ page)
IsOneOrTwo k page (Some right) upper g = (t : Tree) × (u : Tree)
    × (g ≡ more k t (one (key_at upper.entries 0) u)) × (page_of t ≡ page) × (page_of u ≡ right)

-- a tree at a page became one or two as a row was put
pub record IsRaised (P Q : Image) (d : ℕ) (low : List ℕ) (high : Option (List ℕ)) (free left : List ℕ)
    (key value : List ℕ) (had : Bool) (k : List ℕ) (page : ℕ) (t : Tree) (right : Option ℕ) (upper : Node) : Type 0 where
  pub trees : Forest
  pub is_put : IsPut P Q d low high free left key value had (one k t) trees
  pub shape : IsOneOrTwo k page right upper trees

-- a tree at a page of n, between bounds
pub record StandsAt (n : ℕ) (P : Image) (d : ℕ) (low : List ℕ) (high : Option (List ℕ)) (free : List ℕ) (page : ℕ) (t : Tree) : Type 0 where
  pub tree_is : IsTree P d low high t
  pub page_is : page_of t ≡ page
  pub sound : IsSound n free t

-- it reads as these bytes, and has a place for the key
pub record CanPut (n : ℕ) (P : Image) (d : ℕ) (low : List ℕ) (high : Option (List ℕ))
    (free : List ℕ) (page : ℕ) (bytes key : List ℕ) (t : Tree) : Type 0 where
  pub reads : bytes ≡ P page
  pub stands : StandsAt n P d low high free page t
  pub free_are : AreFree n free
  pub between : IsBetween low high key

-- in some bounds
abbrev pub CanPutSome : ℕ → (Image → Image) → ℕ → (Image → List ℕ) → ℕ → List ℕ → List ℕ → Image → Type 0
CanPutSome n over_it d free_in_it page bytes key P = (low : List ℕ) × (high : Option (List ℕ))
    × (t : Tree) × CanPut n (over_it P) d low high (free_in_it P) page bytes key t

-- how many pages were written and taken; none was given back. A node that was cut took one at each level
abbrev pub AreFew : ℕ → Txn → Txn → Option ℕ → Type 0
AreFew d old new None = (txn_writes new ≤ txn_writes old + (2 * d + 1)) × (txn_free old ≤ txn_free new + d) × (txn_free new ≤ txn_free old)
AreFew d old new (Some right) = (txn_writes new ≤ txn_writes old + (2 * d + 2))
    × (txn_free old ≡ txn_free new + (d + 1)) × (txn_free new ≤ txn_free old)

-- a new root stands on a page that was free, above two nodes
pub record IsGrown (P Q : Image) (free left : List ℕ) (root right d : ℕ) (bound : List ℕ) (top : ℕ) : Type 0 where
  pub holds : IsNode (Q top) (record { level = d + 1; entries = ([], child_bytes root) ∷ (bound, child_bytes right) ∷ [] })
  pub elsewhere : (q : ℕ) → q ≢ top → Q q ≡ P q
  pub taken : free ≡ top ∷ left
