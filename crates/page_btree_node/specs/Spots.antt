-- Where a row stands in a page, and what the edits of a page do.
use Rattle.{std.specs.FinMap.{find, put}, page_btree_node.specs.{Places.{IsFound, IsGap}, Searching.IsBelow, claim.{Entries.{Entry, size_of}, Node.{Node, IsNode, Fits}}}}
use Rattle.std.specs.Prelude.{◌≡◌, ◌<◌, ◌+◌, ◌≤◌, ℕ, Bool, true, false, List, length, take, remove, Option, Some, None, is_some, insert, slice_set, Result, IfOk, OnErr}
use Rattle.page_btree_node.specs.{claim.Places.{key_cmp, Rises}, declared.{edit.RowPut.RowPut, scan.NotANode.NotANode, search.RowNear.RowNear, spot.Spot.Spot}}

-- the key's entry begins and ends at these places and has so many before it, or it isn't there and would begin there
abbrev pub IsSpot : List ℕ → List Entry → Bool → ℕ → ℕ → ℕ → Type 0
IsSpot key es true i at end = IsFound key es i × (at ≡ 4 + size_of (take i es)) × (end ≡ 4 + size_of (take (i + 1) es))
IsSpot key es false i at end = IsGap key es i × (at ≡ 4 + size_of (take i es)) × (end ≡ 4 + size_of (take i es))

-- the page stands for the node then, or the node has no room and the page is as it was
abbrev pub Becomes : List ℕ → List ℕ → Node → Bool → Type 0
Becomes old new node true = IsNode new node
Becomes old new node false = (new ≡ old) × (Fits node → ⊥)

-- a row was put into a leaf, or has no room there and the page is as it was; each key before the place that is told is below its own
abbrev pub IsRowPut : List ℕ → List ℕ → List ℕ → List ℕ → List Entry → Option RowPut → Type 0
IsRowPut old new key value es (Some did) = IsNode new (record { level = 0; entries = put key_cmp key value es })
    × (did.had ≡ is_some (find key_cmp key es)) × IsBelow key (put key_cmp key value es) did.near.k did.near.at
IsRowPut old new key value es None = (new ≡ old) × (Fits (record { level = 0; entries = put key_cmp key value es }) → ⊥)

-- a row was taken out of a leaf, which has so many left, or its key isn't there and the page is as it was
abbrev pub IsRowTaken : List ℕ → List ℕ → List ℕ → List Entry → Option ℕ → Type 0
IsRowTaken old new key es None = (new ≡ old) × (find key_cmp key es ≡ None)
IsRowTaken old new key es (Some left) = (i : ℕ) × IsFound key es i
    × IsNode new (record { level = 0; entries = remove es i }) × (left ≡ length (remove es i))

-- a row was taken out of a leaf, which has others, or its key isn't there; or it is the only one. But for the first, the page is as
-- it was
abbrev pub IsSpareTaken : List ℕ → List ℕ → List ℕ → List Entry → Option Bool → Type 0
IsSpareTaken old new key es (Some true) = (i : ℕ) × IsFound key es i
    × IsNode new (record { level = 0; entries = remove es i }) × (0 < length (remove es i))
IsSpareTaken old new key es (Some false) = (new ≡ old) × (find key_cmp key es ≡ None)
IsSpareTaken old new key es None = (new ≡ old) × (length es ≡ 1)

-- A row was put into a leaf, from a place before which each key is below its own.
pub record PutsRow (old new key value : List ℕ) (from : RowNear) (result : Result (Option RowPut) NotANode) : Type 0 where
  pub put : (es : List Entry) → IsNode old (record { level = 0; entries = es })
      → Rises es → IsBelow key es from.k from.at → IfOk result (λ did. IsRowPut old new key value es did)
  pub kept : IfOk result (λ did. did ≡ None → new ≡ old)
  pub err : OnErr result ((es : List Entry) → IsNode old (record { level = 0; entries = es }) → Rises es → IsBelow key es from.k from.at → ⊥)

-- A row was taken out of a leaf, where its key is there.
pub record TakesRow (old new key : List ℕ) (result : Result (Option ℕ) NotANode) : Type 0 where
  pub taken : (es : List Entry) → IsNode old (record { level = 0; entries = es }) → Rises es → IfOk result (λ did. IsRowTaken old new key es did)
  pub absent : IfOk result (λ did. did ≡ None → new ≡ old)
  pub err : OnErr result ((es : List Entry) → IsNode old (record { level = 0; entries = es }) → Rises es → ⊥)

-- A row was taken out of a leaf, where its key is there and others are.
pub record TakesSpareRow (old new key : List ℕ) (result : Result (Option Bool) NotANode) : Type 0 where
  pub taken : (es : List Entry) → IsNode old (record { level = 0; entries = es }) → Rises es → IfOk result (λ did. IsSpareTaken old new key es did)
  pub kept : IfOk result (λ did. (did ≡ Some true → ⊥) → new ≡ old)
  pub err : OnErr result ((es : List Entry) → IsNode old (record { level = 0; entries = es }) → Rises es → ⊥)

-- an entry was put before the one at a place, or has no room: in each node that the page stands for
pub record InsertsEntry (old new : List ℕ) (index at : ℕ) (entry : Entry) (fits : Bool) : Type 0 where
  pub inserted : (node : Node) → IsNode old node → (0 < node.level → length entry.1 ≡ 4) → index ≤ length node.entries
      → at ≡ 4 + size_of (take index node.entries) → Becomes old new (record node { entries = insert node.entries index entry }) fits
  pub kept : fits ≡ false → new ≡ old

-- an entry was put in the place of one that begins and ends at two places, or has no room
pub record ReplacesEntry (old new : List ℕ) (index at end : ℕ) (entry : Entry) (fits : Bool) : Type 0 where
  pub replaced : (node : Node) → IsNode old node → (0 < node.level → length entry.1 ≡ 4) → index < length node.entries
      → at ≡ 4 + size_of (take index node.entries) → end ≡ 4 + size_of (take (index + 1) node.entries)
      → Becomes old new (record node { entries = slice_set node.entries index entry }) fits
  pub kept : fits ≡ false → new ≡ old

-- the entry that begins and ends at two places was taken out, and so many are left
abbrev pub RemovesEntry : List ℕ → List ℕ → ℕ → ℕ → ℕ → Type 0
RemovesEntry old new at end left =
    (node : Node) (i : ℕ) → IsNode old node → i < length node.entries → at ≡ 4 + size_of (take i node.entries)
    → end ≡ 4 + size_of (take (i + 1) node.entries)
    → IsNode new (record node { entries = remove node.entries i }) × (left ≡ length (remove node.entries i))

-- ---- what searches tell
-- the page stands for no node in which so many entries end at a place
abbrev pub NoneEnds : List ℕ → ℕ → ℕ → Type 0
NoneEnds page index at = (node : Node) → IsNode page node → index ≤ length node.entries → at ≡ 4 + size_of (take index node.entries) → ⊥

-- the spot of a key in a page whose keys rise, where each key before a place is below it
pub record IsSpotFrom (page key : List ℕ) (from : RowNear) (s : Spot) : Type 0 where
  pub spot : (node : Node) → IsNode page node → Rises node.entries → IsBelow key node.entries from.k from.at
      → IsSpot key node.entries s.found s.index s.at s.end
  pub order : (4 ≤ s.at) × (s.at ≤ s.end) × (s.end ≤ 4096)
  pub few : s.index ≤ 65535

-- where a later entry begins, from where one of them does on
pub record IsLater (page : List ℕ) (from near : RowNear) : Type 0 where
  pub order : (from.at ≤ near.at) × (near.at ≤ 4096)
  pub place : (node : Node) → IsNode page node → from.k ≤ length node.entries → from.at ≡ 4 + size_of (take from.k node.entries)
      → (near.k ≤ length node.entries) × (near.at ≡ 4 + size_of (take near.k node.entries))

-- where the last entry ends, from where one of them begins on
pub record IsEndFrom (page : List ℕ) (index at last : ℕ) : Type 0 where
  pub end : (node : Node) → IsNode page node → index ≤ length node.entries
      → at ≡ 4 + size_of (take index node.entries) → last ≡ 4 + size_of node.entries
  pub order : (at ≤ last) × (last ≤ 4096)
