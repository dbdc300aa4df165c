-- What a look-up below a page needs.
use Rattle.std.specs.{Option.option_map, Prelude.{◌≡◌, ◌<◌, ℕ, List, take, Option, Some, None, true}}
use Rattle.page_btree_gets.specs.{claim.{Keys.IsBetween, Tree.{Tree, IsTree, page_of, owns}}, declared.error.TreeError.{TreeError, TheVariants.{DeviceFault, NotAStore, Halted}}}
use Rattle.page_btree_node.specs.{Entries.child_in, Places.floor, Searching.{IsBelow, RisesAfter}, claim.{Entries.Entry, Node.{Node, IsNode}, Places.Rises}}
use Rattle.{page_btree_node.specs.declared.search.RowNear.RowNear, page_store.specs.claim.Transactions.{stored, disk_in, has_halted, HasFailed, txn_pages, over}}
use Rattle.{page_store.specs.declared.{pages.Pages.Pages, txn.Txn.Txn}, sector_device.specs.{claim.Disk.Image, declared.SectorDevice.Ghosts}}

-- the bytes are those of a tree's page, whose range has the key
pub record CanGet (n : ℕ) (P : Image) (d : ℕ) (key page : List ℕ) : Type 0 where
  pub tree : Tree
  pub low : List ℕ
  pub high : Option (List ℕ)
  pub tree_is : IsTree P d low high tree
  pub page_is : page ≡ P (page_of tree)
  pub below : (q : ℕ) → owns tree q → q < n
  pub between : IsBetween low high key

-- the child that a key belongs to, by a page whose keys rise after the first
abbrev pub IsChild : List ℕ → List ℕ → ℕ → Type 0
IsChild page key child = (node : Node) → IsNode page node → RisesAfter node.entries → option_map child_in (floor key node.entries) ≡ Some child

-- or none, by a page that is no node's above the leaves
abbrev pub NoChild : List ℕ → List ℕ → Type 0
NoChild page key = (node : Node) → IsNode page node → RisesAfter node.entries → 0 < node.level → floor key node.entries ≡ None

-- the value is the prefix of a buffer, or there is none
abbrev pub IsCopied : Option ℕ → List ℕ → Option (List ℕ) → Type 0
IsCopied length_is into value = option_map (λ length. take length into) length_is ≡ value

module _ {D : Type 0} {g : Ghosts D} where
  -- why a call that reads is refused, where the pages are such
  abbrev pub ReadsErr : (Image → Type 0) → Pages D g → Pages D g → TreeError → Type 0
  ReadsErr can old new DeviceFault = HasFailed old new
  ReadsErr can old new NotAStore = (disk_in new).is_honest → can (stored old) → ⊥
  ReadsErr can old new Halted = has_halted old ≡ true
  ReadsErr can old new _ = ⊥

-- a page of n is one of a node of a level
pub record IsLevel (n : ℕ) (P : Image) (d page : ℕ) : Type 0 where
  pub node : Node
  pub node_is : IsNode (P page) node
  pub level_is : node.level ≡ d
  pub below : page < n

-- a tree stands at a page of n, whose range has the key
abbrev pub CanGetAt : ℕ → Image → ℕ → List ℕ → ℕ → Type 0
CanGetAt n P d key page = CanGet n P d key (P page) × IsLevel n P d page

module _ {D : Type 0} {g : Ghosts D} where
  -- why a page isn't lent or read as a node's of a level
  abbrev pub LevelErr : Txn → Pages D g → Pages D g → ℕ → ℕ → TreeError → Type 0
  LevelErr t old new d page e = ReadsErr (λ P. IsLevel (txn_pages t) (over t P) d page) old new e

  -- why a look-up below a page of a node of a level is refused
  abbrev pub GetAtErr : Txn → Pages D g → Pages D g → ℕ → List ℕ → ℕ → TreeError → Type 0
  GetAtErr t old new d key page e = ReadsErr (λ P. CanGetAt (txn_pages t) (over t P) d key page) old new e

-- a leaf stands at a page of n, in which each key before a place is below this one
abbrev pub CanGetIn : ℕ → Image → ℕ → RowNear → List ℕ → Type 0
CanGetIn n P leaf from key = (es : List Entry) × IsNode (P leaf) (record { level = 0; entries = es }) × Rises es
    × IsBelow key es from.k from.at × (leaf < n)
