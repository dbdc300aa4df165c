-- Pages that hold a map.
use Rattle.std.specs.{FinMap.entries, Prelude.{◌≡◌, ◌⊎◌, ◌<◌, ◌≤◌, ◌+◌, ℕ, List, [], length, None}}
use Rattle.{page_btree_gets.specs.claim.{Keys.KeyMap, Tree.{Tree, IsTree, IsApart, page_of, owns, rows, size}}, page_store.specs.claim.Chain.{IsIn, AreFree, root_in, free_in}}
use Rattle.page_store.specs.{claim.Transactions.{stored, count_of, txn_pages, txn_root, over, free_over}, declared.{pages.Pages.Pages, txn.Txn.Txn}}
use Rattle.sector_device.specs.{claim.Disk.Image, declared.SectorDevice.Ghosts}

-- the tree's pages are pages of the store other than page 0, each stands once in it, and none of them is free
pub record IsSound (n : ℕ) (free : List ℕ) (t : Tree) : Type 0 where
  pub apart : IsApart t
  pub below : (q : ℕ) → owns t q → (0 < q) × (q < n)
  pub used : (q : ℕ) → owns t q → IsIn q free → ⊥

-- no root: a map without rows, and every page but page 0 is free
pub record IsBare (n root : ℕ) (free : List ℕ) (m : KeyMap) : Type 0 where
  pub root_is : root ≡ 0
  pub none : entries m ≡ []
  pub whole : length free + 1 ≡ n

-- a tree of at most six levels at the root, whose rows are the map's, and every other page but page 0 is free
pub record IsRooted (n : ℕ) (P : Image) (root : ℕ) (free : List ℕ) (m : KeyMap) : Type 0 where
  pub tree : Tree
  pub level : ℕ
  pub few : level ≤ 5
  pub stands : IsTree P level [] None tree
  pub root_is : page_of tree ≡ root
  pub sound : IsSound n free tree
  pub rows_are : rows tree ≡ entries m
  pub whole : size tree + length free + 1 ≡ n

-- n pages with a root and free pages hold the map
pub record Holds (n : ℕ) (P : Image) (root : ℕ) (free : List ℕ) (m : KeyMap) : Type 0 where
  pub free_are : AreFree n free
  pub held : IsBare n root free m ⊎ IsRooted n P root free m

-- a transaction over stored pages reads the map
abbrev pub InTxn : Txn → Image → KeyMap → Type 0
InTxn t P m = Holds (txn_pages t) (over t P) (txn_root t) (free_over t P) m

-- stored pages hold it
abbrev pub InPages : {D : Type 0} {g : Ghosts D} → Pages D g → KeyMap → Type 0
InPages ps m = Holds (count_of ps) (stored ps) (root_in (stored ps)) (free_in (stored ps)) m
