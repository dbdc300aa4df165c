-- Pages of which each has one owner: page 0, the list of free pages, or the tree.
use Rattle.std.{specs.Prelude.{◌≡◌, ◌⊎◌, ◌≤◌, ◌<◌, ◌+◌, ℕ, true, false, List, [], ◌∷◌, length, drop, Option, None}, proofs.Common.{get_or, zero, suc}}
use Rattle.{gate_journal.specs.claim.Store.word, page_btree_checks.specs.{Order.lower_of, declared.marks.Marks.Marks}, page_btree_gets.specs.claim.{Keys.KeyMap, Map.Holds}}
use Rattle.page_btree_gets.specs.{claim.Tree.{Tree, Forest, IsTree, AreTrees, IsApart, AreApart, page_of, links, owns, forest_owns, size, forest_size}, node.claim.Entries.Entry}
use Rattle.{page_btree_gets.specs.node.claim.Node.{Node, IsNode}, page_store.specs.claim.{Chain.{is_blank, IsIn, AreFree, root_in, free_in}, Transactions.{txn_pages, count_of}}}
use Rattle.{page_store.specs.declared.{pages.Pages.Pages, txn.Txn.Txn}, sector_device.specs.{claim.Disk.Image, declared.SectorDevice.Ghosts}}

-- ---- what is checked
-- a page has no bytes but those of its link
abbrev pub IsBlank : List ℕ → Type 0
IsBlank bytes = is_blank bytes ≡ true

-- count pages from the first one on, each linked to the next, whatever else they hold
abbrev pub linked : Image → ℕ → ℕ → List ℕ
linked P first zero = []
linked P first (suc count) = first ∷ linked P (word (P first) 0) count

-- as many as page 0 says, from the one that it names
abbrev pub named_free : Image → List ℕ
named_free P = linked P (word (P 0) 1) (word (P 0) 2)

-- the page after so many that are linked
abbrev pub after : Image → ℕ → ℕ → ℕ
after P first zero = first
after P first (suc count) = after P (word (P first) 0) count

-- n pages hold the map: so page 0, the free pages and the tree's are all, and each is there once. The list of the free
-- ones ends after as many as the header says.
pub record AreOwnedBy (n : ℕ) (P : Image) (m : KeyMap) : Type 0 where
  pub holds : Holds n P (root_in P) (free_in P) m
  pub ends : after P (word (P 0) 1) (word (P 0) 2) ≡ 0

abbrev pub AreOwned : ℕ → Image → Type 0
AreOwned n P = (m : KeyMap) × AreOwnedBy n P m

-- ---- pages that were named
-- these are the pages that the transaction was begun with, and each has a mark
pub record AreMarksFor {D : Type 0} {g : Ghosts D} (t : Txn) (ps : Pages D g) (marks : Marks) : Type 0 where
  pub begun : txn_pages t ≡ count_of ps
  pub long : length marks.seen.items ≡ txn_pages t

abbrev pub IsSeen : Marks → ℕ → Type 0
IsSeen marks q = get_or marks.seen.items q false ≡ true

-- a page that may be named
abbrev pub CanName : ℕ → Marks → Type 0
CanName p marks = (p < length marks.seen.items) × (IsSeen marks p → ⊥)

-- these pages were named, so many, and none of them had been
pub record AreNamed (pages : ℕ → Type 0) (count : ℕ) (old new : Marks) : Type 0 where
  pub within : (q : ℕ) → pages q → q < length old.seen.items
  pub fresh : (q : ℕ) → pages q → IsSeen old q → ⊥
  pub here : (q : ℕ) → pages q → IsSeen new q
  pub kept : (q : ℕ) → IsSeen old q → IsSeen new q
  pub only : (q : ℕ) → IsSeen new q → pages q ⊎ IsSeen old q
  pub count_is : new.left + count ≡ old.left
  pub long : length new.seen.items ≡ length old.seen.items

-- ---- the list of free pages
pub record IsFreeList (P : Image) (first count : ℕ) (old new : Marks) : Type 0 where
  pub named : AreNamed (λ q. IsIn q (linked P first count)) count old new
  pub free : IsSeen old 0 → AreFree (length old.seen.items) (linked P first count)
  pub blank : (q : ℕ) → IsIn q (linked P first count) → IsBlank (P q)
  pub ends : after P first count ≡ 0

-- one of which no page was named
pub record CanList (P : Image) (first count : ℕ) (old : Marks) : Type 0 where
  pub free : AreFree (length old.seen.items) (linked P first count)
  pub fresh : (q : ℕ) → IsIn q (linked P first count) → IsSeen old q → ⊥
  pub blank : (q : ℕ) → IsIn q (linked P first count) → IsBlank (P q)
  pub ends : after P first count ≡ 0

-- ---- the tree
-- the bytes are those of a node of this level
pub record HasLevel (bytes : List ℕ) (level : ℕ) : Type 0 where
  pub node : Node
  pub node_is : IsNode bytes node
  pub level_is : node.level ≡ level

-- a tree stands at the page, whose pages were named
pub record IsWalked (P : Image) (d : ℕ) (low : List ℕ) (high : Option (List ℕ)) (p : ℕ) (old new : Marks) : Type 0 where
  pub tree : Tree
  pub stands : IsTree P d low high tree
  pub page_is : page_of tree ≡ p
  pub apart : IsApart tree
  pub named : AreNamed (owns tree) (size tree) old new

-- children of a node
pub record AreWalked (P : Image) (d : ℕ) (low : List ℕ) (high : Option (List ℕ)) (es : List Entry) (old new : Marks) : Type 0 where
  pub forest : Forest
  pub stand : AreTrees P d low high forest
  pub links_are : links forest ≡ es
  pub apart : AreApart forest
  pub named : AreNamed (forest_owns forest) (forest_size forest) old new

-- the children of a node from a place on, or none
pub record AreWalkedFrom (P : Image) (d : ℕ) (low : List ℕ) (high : Option (List ℕ)) (es : List Entry) (k : ℕ) (old new : Marks) : Type 0 where
  pub none : k ≡ length es → new ≡ old
  pub some : k < length es → AreWalked P d (lower_of low es k) high (drop k es) old new

-- a tree stands at the page, none of whose pages was named
pub record CanWalk (P : Image) (d : ℕ) (low : List ℕ) (high : Option (List ℕ)) (p : ℕ) (old : Marks) : Type 0 where
  pub tree : Tree
  pub stands : IsTree P d low high tree
  pub page_is : page_of tree ≡ p
  pub apart : IsApart tree
  pub fresh : (q : ℕ) → owns tree q → CanName q old

-- the same at a root, which is none at page 0
abbrev pub IsRootWalked : Image → ℕ → Marks → Marks → Type 0
IsRootWalked P root old new = ((root ≡ 0) × (new ≡ old)) ⊎ ((d : ℕ) × (d ≤ 5) × IsWalked P d [] None root old new)

abbrev pub CanWalkRoot : Image → ℕ → Marks → Type 0
CanWalkRoot P root old = (root ≡ 0) ⊎ ((d : ℕ) × (d ≤ 5) × CanWalk P d [] None root old)
