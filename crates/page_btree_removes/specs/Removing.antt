-- What a remove does to a part of a tree.
use Rattle.std.specs.{FinMap.{find, put}, Ordering.is_gt, Prelude.{◌≡◌, ◌⊎◌, ◌<◌, ◌≤◌, ◌+◌, ℕ, List, [], ◌∷◌, length, cond, Option, Some, None, remove}}
use Rattle.page_btree_gets.specs.{Getting.ReadsErr, claim.{Keys.{IsBetween, Parts}, Map.IsSound}, declared.error.TreeError.{TreeError, TheVariants.{NotAStore, Memory}}}
use Rattle.page_btree_gets.specs.claim.Tree.{Tree, Forest, IsTree, AreTrees, IsApart, AreApart, page_of, first_key, rows, owns, size, forest_rows, forest_owns, forest_size}
use Rattle.{page_btree_gets.specs.node.{Places.IsFound, claim.{Entries.Entry, Node.{Node, IsNode, count_in}, Places.{key_cmp, Rises}}}, page_store.specs.declared.pages.Pages.Pages}
use Rattle.{page_btree_removes.specs.declared.removes.Removed.{Removed, TheVariants.{Absent, Kept, Emptied}}, page_store.specs.{claim.Chain.{IsIn, AreFree}, declared.txn.Txn.Txn}}
use Rattle.{page_store.specs.claim.Transactions.{txn_pages, over, free_over}, sector_device.specs.{claim.Disk.Image, declared.SectorDevice.Ghosts}}

-- ---- what is left of a tree, or of children: a smaller one, or nothing
abbrev pub rows_left : Option Tree → List Entry
rows_left None = []
rows_left (Some t) = rows t

abbrev pub owns_left : Option Tree → ℕ → Type 0
owns_left None q = ⊥
owns_left (Some t) q = owns t q

abbrev pub size_left : Option Tree → ℕ
size_left None = 0
size_left (Some t) = size t

abbrev pub StandsLeft : Image → ℕ → List ℕ → Option (List ℕ) → ℕ → Option Tree → Type 0
StandsLeft Q d low high page None = Unit {0}
StandsLeft Q d low high page (Some t) = IsTree Q d low high t × IsApart t × (page_of t ≡ page)

abbrev pub forest_rows_left : Option Forest → List Entry
forest_rows_left None = []
forest_rows_left (Some f) = forest_rows f

abbrev pub forest_owns_left : Option Forest → ℕ → Type 0
forest_owns_left None q = ⊥
forest_owns_left (Some f) q = forest_owns f q

abbrev pub forest_size_left : Option Forest → ℕ
forest_size_left None = 0
forest_size_left (Some f) = forest_size f

-- the first child is the same, or gone and then the others stand from the next one's key on
abbrev pub ForestLeft : Image → ℕ → List ℕ → Option (List ℕ) → List ℕ → Option Forest → Type 0
ForestLeft Q d low high first None = Unit {0}
ForestLeft Q d low high first (Some f) = AreTrees Q d low high f × AreApart f
    × ((first_key f ≡ first) ⊎ (Parts low high (first_key f) × AreTrees Q d (first_key f) high f))

-- Rows became others as the pages went from P to Q, and pages of their own were given back: they are those that are left, with the row that
-- was removed.
pub record IsLess (n : ℕ) (P Q : Image) (free left key : List ℕ) (all now : List Entry) (own still : ℕ → Type 0) (total now_total : ℕ) : Type 0 where
  pub value : List ℕ
  pub rows_are : put key_cmp key value now ≡ all
  pub none : find key_cmp key now ≡ None
  pub owned : (q : ℕ) → still q → own q × (IsIn q left → ⊥)
  pub frame : (q : ℕ) → (own q → ⊥) → Q q ≡ P q
  pub given : (q : ℕ) → IsIn q left → IsIn q free ⊎ own q
  pub free_are : AreFree n left
  pub whole : now_total + length left ≡ total + length free

-- a tree became a smaller one, or nothing
pub record IsRemoved (n : ℕ) (P Q : Image) (d : ℕ) (low : List ℕ) (high : Option (List ℕ))
    (free left : List ℕ) (key : List ℕ) (t : Tree) (u : Option Tree) : Type 0 where
  pub stands : StandsLeft Q d low high (page_of t) u
  pub less : IsLess n P Q free left key (rows t) (rows_left u) (owns t) (owns_left u) (size t) (size_left u)

-- the same of children
pub record AreRemoved (n : ℕ) (P Q : Image) (d : ℕ) (low : List ℕ) (high : Option (List ℕ))
    (free left : List ℕ) (key : List ℕ) (f : Forest) (g : Option Forest) : Type 0 where
  pub stands : ForestLeft Q d low high (first_key f) g
  pub less : IsLess n P Q free left key (forest_rows f) (forest_rows_left g) (forest_owns f) (forest_owns_left g) (forest_size f) (forest_size_left g)

-- links without that of the child that a key belongs to
abbrev pub unlinked_from : List ℕ → Entry → List Entry → List Entry
unlinked_from key e [] = []
unlinked_from key e (d ∷ ds) = cond (is_gt (key_cmp d.0 key)) (d ∷ ds) (e ∷ unlinked_from key d ds)

abbrev pub unlinked : List ℕ → List Entry → List Entry
unlinked key [] = []
unlinked key (e ∷ es) = unlinked_from key e es

-- ---- what a page's call does
-- a key can be removed below a page: a tree stands there, whose range has the key
pub record CanRemove (n : ℕ) (P : Image) (free : List ℕ) (d : ℕ) (key : List ℕ) (page : ℕ) : Type 0 where
  pub tree : Tree
  pub low : List ℕ
  pub high : Option (List ℕ)
  pub tree_is : IsTree P d low high tree
  pub page_is : page_of tree ≡ page
  pub sound : IsSound n free tree
  pub free_are : AreFree n free
  pub between : IsBetween low high key

-- what a remove below a tree did: where its page is still in use, the node above the leaves there has no more entries
abbrev pub RemovesAt : ℕ → Image → Image → ℕ → List ℕ → Option (List ℕ) → List ℕ → List ℕ → List ℕ → Tree → Removed → Type 0
RemovesAt n P Q d low high free left key t Absent = find key_cmp key (rows t) ≡ None
RemovesAt n P Q d low high free left key t Kept = (u : Tree) × IsRemoved n P Q d low high free left key t (Some u)
    × (0 < d → count_in (Q (page_of t)) ≤ count_in (P (page_of t)))
RemovesAt n P Q d low high free left key t Emptied = IsRemoved n P Q d low high free left key t None

abbrev pub Removes : {n : ℕ} {P : Image} {free : List ℕ} {d : ℕ} {key : List ℕ} {page : ℕ}
    → Image → List ℕ → CanRemove n P free d key page → Removed → Type 0
Removes {n = n} {P = P} {free = free} {d = d} {key = key} Q left can did = RemovesAt n P Q d can.low can.high free left key can.tree did

-- where the key isn't there the transaction stays as it is
abbrev pub StaysAt : Txn → Txn → Removed → Type 0
StaysAt old new Absent = new ≡ old
StaysAt old new Kept = Unit {0}
StaysAt old new Emptied = Unit {0}

-- something was removed
abbrev pub IsDone : Removed → Type 0
IsDone Absent = ⊥
IsDone Kept = Unit {0}
IsDone Emptied = Unit {0}

-- a node that has an entry less was written, or was empty and its page given back
abbrev pub IsPutBack : Txn → Txn → ℕ → Node → Removed → Type 0
IsPutBack old new page node Absent = ⊥
IsPutBack old new page node Kept = (0 < length node.entries) × ((P : Image) → IsNode (over new P page) node)
    × ((P : Image) (n : ℕ) → AreFree n (free_over old P) → (IsIn page (free_over old P) → ⊥) → free_over new P ≡ free_over old P)
IsPutBack old new page node Emptied = (node.entries ≡ [])
    × ((P : Image) (n : ℕ) → AreFree n (free_over old P) → (IsIn page (free_over old P) → ⊥) → free_over new P ≡ page ∷ free_over old P)

-- a leaf's row was taken out, or its key isn't there
abbrev pub RowRemoves : Txn → Txn → ℕ → List ℕ → List Entry → Removed → Type 0
RowRemoves old new page key es Absent = find key_cmp key es ≡ None
RowRemoves old new page key es did = (i : ℕ) × IsFound key es i × IsPutBack old new page (record { level = 0; entries = remove es i }) did

-- why a page isn't given back or written: more pages are free than a store has, or a growth was refused
abbrev pub BackErr : Txn → ℕ → TreeError → Type 0
BackErr t p NotAStore = (P : Image) → 0 < p → AreFree (txn_pages t) (free_over t P) → (IsIn p (free_over t P) → ⊥) → ⊥
BackErr t p Memory = Unit {0}
BackErr t p _ = ⊥

-- or the page is that of no leaf whose keys rise
abbrev pub TakenErr : Txn → ℕ → List ℕ → TreeError → Type 0
TakenErr t p page NotAStore = (P : Image) (es : List Entry) → IsNode page (record { level = 0; entries = es })
    → Rises es → 0 < p → AreFree (txn_pages t) (free_over t P) → (IsIn p (free_over t P) → ⊥) → ⊥
TakenErr t p page Memory = Unit {0}
TakenErr t p page _ = ⊥

-- or the page is that of no node with entries
abbrev pub LinkErr : Txn → ℕ → List ℕ → TreeError → Type 0
LinkErr t p page NotAStore = (P : Image) (node : Node) → IsNode page node → 0 < length node.entries
    → 0 < p → AreFree (txn_pages t) (free_over t P) → (IsIn p (free_over t P) → ⊥) → ⊥
LinkErr t p page Memory = Unit {0}
LinkErr t p page _ = ⊥

module _ {D : Type 0} {g : Ghosts D} where
  -- why a key isn't removed below a page, where the pages are such
  abbrev pub BelowErr : (Image → Type 0) → Pages D g → Pages D g → TreeError → Type 0
  BelowErr can old new Memory = Unit {0}
  BelowErr can old new e = ReadsErr can old new e
