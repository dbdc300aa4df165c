-- A node, and the bytes of a page that stand for one:
--   byte 0         the level, 0 for a leaf
--   bytes 2, 3     the number of entries
--   from byte 4    the entries, and zeros
use Rattle.std.{specs.{List.All, Prelude.{◌≡◌, ◌≤◌, ◌<◌, ◌+◌, ◌*◌, ℕ, List, length, take, drop}}, proofs.Common.get_or}
use Rattle.page_btree_node.specs.claim.Entries.{Entry, IsEntry, body_of, size_of}

pub record Node : Type 0 where
  pub level : ℕ
  pub entries : List Entry

-- levels are 0 to 5, and a value above the leaves is a page's number
pub record IsShape (node : Node) : Type 0 where
  pub level : node.level ≤ 5
  pub entries : All IsEntry node.entries
  pub children : 0 < node.level → All (λ e. length e.1 ≡ 4) node.entries

-- its entries have room in a page
abbrev pub Fits : Node → Type 0
Fits node = size_of node.entries ≤ 4092

-- how many entries a page says that it has
abbrev pub count_in : List ℕ → ℕ
count_in page = 256 * get_or page 2 0 + get_or page 3 0

-- The page stands for the node. Byte 1, and what lies after the entries, is not looked at.
pub record IsNode (page : List ℕ) (node : Node) : Type 0 where
  pub level : get_or page 0 0 ≡ node.level
  pub count : count_in page ≡ length node.entries
  pub body : take (size_of node.entries) (drop 4 page) ≡ body_of node.entries
  pub shape : IsShape node
  pub fits : Fits node
