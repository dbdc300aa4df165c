-- A search in a page from its first entry on.
use Rattle.std.specs.{Option.option_map, Ordering.is_gt, Prelude.{◌≡◌, ◌<◌, ◌≤◌, ◌+◌, ◌-◌, ℕ, false, List, Some, None, length, take, drop, IfSome, IfNone}}
use Rattle.{std.specs.declared.cmp.Ordering.TheVariants.Less, page_btree_node.specs.{Bytes.LiesAt, Entries.{key_at, value_at, child_in}, Places.{ceiling, floor}}}
use Rattle.page_btree_node.specs.{claim.{Entries.{Entry, size_of}, Node.{Node, IsNode, count_in}, Places.{key_cmp, Rises}}, declared.search.{Near.Near, RowNear.RowNear}}
use Rattle.page_btree_node.specs.declared.search.WayDown.{WayDown}

-- the keys rise, where the first says nothing
abbrev pub RisesAfter : List Entry → Type 0
RisesAfter es = Rises (drop 1 es)

-- the search stands before the entry k, no key before which is above this one; the value before it begins there
pub record IsLast (page key : List ℕ) (es : List Entry) (k value at : ℕ) : Type 0 where
  pub place : at ≡ 4 + size_of (take k es)
  pub below : (j : ℕ) → 0 < j → j < k → is_gt (key_cmp (key_at es j) key) ≡ false
  pub none : k ≡ 0 → value ≡ 0
  pub some : 0 < k → (0 < value) × (value + length (value_at es (k - 1)) ≡ at) × (take (at - value) (drop value page) ≡ value_at es (k - 1))

-- the search for a row stands before the entry k; where keys rise, each before it is below this one
abbrev pub IsBelow : List ℕ → List Entry → ℕ → ℕ → Type 0
IsBelow key es k at = (at ≡ 4 + size_of (take k es)) × (Rises es → (j : ℕ) → j < k → key_cmp (key_at es j) key ≡ Less)

-- the key of the entry k is the first above this one
pub record IsTurn (key : List ℕ) (es : List Entry) (k at : ℕ) : Type 0 where
  pub some : 0 < k
  pub within : k < length es
  pub place : at ≡ 4 + size_of (take k es)
  pub above : ceiling key es ≡ Some (key_at es k)

-- ---- what searches tell
-- the page stands for no node whose entries before a place are below a key
abbrev pub NoneFrom : List ℕ → List ℕ → RowNear → Type 0
NoneFrom page key from = (node : Node) → IsNode page node → IsBelow key node.entries from.k from.at → ⊥

-- a place near a key's: each key before it is below this one, as it is before the place that was known
pub record IsNear (page key : List ℕ) (from near : RowNear) : Type 0 where
  pub within : (4 ≤ near.at) × (near.at ≤ 4096) × (near.k ≤ count_in page)
  pub below : (node : Node) → IsNode page node → IsBelow key node.entries from.k from.at → IsBelow key node.entries near.k near.at

-- a place near that of the child to which a key belongs
pub record IsNearChild (page key : List ℕ) (near : Near) : Type 0 where
  pub within : (near.at ≤ 4096) × (near.value ≤ 4096) × (near.k ≤ count_in page)
  pub last : (node : Node) → IsNode page node → RisesAfter node.entries → IsLast page key node.entries near.k near.value near.at

-- the child that a key belongs to, and the first entry whose key is above it, if there is one
pub record IsWayDown (page key : List ℕ) (turn : WayDown) : Type 0 where
  pub child : (node : Node) → IsNode page node → RisesAfter node.entries → option_map child_in (floor key node.entries) ≡ Some turn.child
  pub lies : IfSome turn.above (λ a. LiesAt page a.at a.value a.end)
  pub few : IfSome turn.above (λ a. a.k < 65536)
  pub above : (node : Node) → IsNode page node → RisesAfter node.entries → IfSome turn.above (λ a. IsTurn key node.entries a.k a.at)
  pub last : (node : Node) → IsNode page node → RisesAfter node.entries → IfNone turn.above (ceiling key node.entries ≡ None)

-- no key of an inner node is a way down
abbrev pub NoWayDown : List ℕ → List ℕ → Type 0
NoWayDown page key = (node : Node) → IsNode page node → RisesAfter node.entries → 0 < node.level → floor key node.entries ≡ None
