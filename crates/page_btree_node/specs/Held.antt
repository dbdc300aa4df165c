-- A node in a buffer: its entries from byte 4 on, and where they end.
use Rattle.{std.{specs.Coded.{Coded, code_by, coded×, coded_list, coded_ℕ}, proofs.Common.get_or}, page_btree_node.specs.Entries.{read_from, key_at, value_at}}
use Rattle.std.specs.Prelude.{◌≡◌, ◌≤◌, ◌+◌, ◌<◌, ◌*◌, ℕ, List, [], ◌++◌, refl, take, drop, length, Result, OnOk, OnErr, IfOk, MatchResult}
use Rattle.page_btree_node.specs.{Places.{IsFound, IsGap}, claim.{Entries.{Entry, body_of, size_of}, Node.{Node, IsNode, IsShape, Fits, count_in}, Places.Rises}}
use Rattle.page_btree_node.specs.declared.scan.NotANode.{NotANode}

-- a node is stored as the pair of its fields
abbrev pub node_code : Coded Node
node_code = code_by (ℕ × List Entry) (coded× coded_ℕ (coded_list (coded× (coded_list coded_ℕ) (coded_list coded_ℕ))))
    (λ n. (n.level, n.entries)) (λ p. record { level = p.0; entries = p.1 }) (λ _. refl)

abbrev pub held_node : ℕ → ℕ → List ℕ → Node
held_node level count bytes = record { level = level; entries = read_from count (drop 4 bytes) }

-- the entries stand in the bytes, and the k-th end is that of the first k
pub record IsHeld (level count : ℕ) (ends bytes : List ℕ) : Type 0 where
  pub shape : IsShape (held_node level count bytes)
  pub few : count ≤ 1365
  pub body : take (size_of (read_from count (drop 4 bytes))) (drop 4 bytes) ≡ body_of (read_from count (drop 4 bytes))
  pub room : size_of (read_from count (drop 4 bytes)) ≤ 5191
  pub places : (k : ℕ) → k ≤ count → get_or ends k 0 ≡ 4 + size_of (take k (read_from count (drop 4 bytes)))

-- so many entries a page has, with their ends
pub record HasEnds (page ends : List ℕ) (n : ℕ) : Type 0 where
  pub count : n ≡ count_in page
  pub held : IsHeld (get_or page 0 0) n ends page

-- Unless the entry that was added is the last and those before it fit, the entries that stay take half of the bytes, or more by
-- less than an entry.
abbrev pub IsCutAtHalf : ℕ → List Entry → List Entry → Type 0
IsCutAtHalf added es lower =
    (added + 1 ≡ length es → 4092 < size_of (take added es)) → (size_of es ≤ 2 * size_of lower) × (2 * size_of lower < size_of es + 2198)

-- An entry stands at a place among so many, each end after which is past as many bytes as it has.
pub record HasEntryAt (ends : List ℕ) (i count size : ℕ) : Type 0 where
  pub within : i < count
  pub room : count ≤ 1365
  pub large : (k : ℕ) → i < k → k ≤ count → size ≤ get_or ends k 0

-- the ends of a node's entries, which take more than half of two pages' bytes
pub record MayBeCut (ends : List ℕ) (count : ℕ) : Type 0 where
  pub room : count ≤ 1365
  pub first : get_or ends 0 0 ≡ 4
  pub steps : (k : ℕ) → k < count → (get_or ends k 0 ≤ get_or ends (k + 1) 0) × (get_or ends (k + 1) 0 ≤ get_or ends k 0 + 1099)
  pub some : 2 < count
  pub large : 2202 < get_or ends count 0
  pub most : get_or ends count 0 ≤ 5195

-- the same of the places where the entries end
abbrev pub IsEndAtHalf : List ℕ → ℕ → ℕ → ℕ → Type 0
IsEndAtHalf ends count added cut =
    (added + 1 ≡ count → 4096 < get_or ends added 0)
    → (get_or ends count 0 + 4 ≤ 2 * get_or ends cut 0) × (2 * get_or ends cut 0 < get_or ends count 0 + 2202)

-- so many entries stay, and each part has some and fits: all but the last, or at half
pub record IsCut (ends : List ℕ) (count added cut : ℕ) : Type 0 where
  pub within : (0 < cut) × (cut < count)
  pub left : get_or ends cut 0 ≤ 4096
  pub right : get_or ends count 0 ≤ get_or ends cut 0 + 4092
  pub last : added + 1 ≡ count → get_or ends added 0 ≤ 4096 → cut ≡ added
  pub half : IsEndAtHalf ends count added cut

-- The entries of one node are those of two: both fit and have some. That which was added as the last moves alone, where it may.
pub record SplitsInto (old left right : Node) (added : ℕ) : Type 0 where
  pub entries : left.entries ++ right.entries ≡ old.entries
  pub level : (left.level ≡ old.level) × (right.level ≡ old.level)
  pub some : (0 < length left.entries) × (0 < length right.entries)
  pub fits : Fits left × Fits right
  pub last : added + 1 ≡ length old.entries → size_of (take added old.entries) ≤ 4092 → left.entries ≡ take added old.entries
  pub half : IsCutAtHalf added old.entries left.entries

-- the node fits, and may be given an entry with this value
pub record MayTake (node : Node) (value : List ℕ) : Type 0 where
  pub fits : Fits node
  pub short : length value ≤ 1024
  pub child : 0 < node.level → length value ≡ 4

-- ---- what a buffer's functions tell
-- The page stands for the node that was read, or for none, and then the buffer holds nothing.
pub record ReadsNode {T : Type 0} (page : List ℕ) (new : Node) (result : Result T NotANode) : Type 0 where
  pub read : OnOk result (IsNode page new)
  pub refused : OnErr result ((node : Node) → IsNode page node → ⊥)
  pub nothing : OnErr result (new ≡ record { level = 0; entries = [] })

-- The place that was found has the key, or is that which it would have.
pub record FindsKey (key : List ℕ) (es : List Entry) (result : Result ℕ ℕ) : Type 0 where
  pub within : MatchResult result (λ i. i < length es) (λ i. i ≤ length es)
  pub here : IfOk result (λ i. key_at es i ≡ key)
  pub place : Rises es → MatchResult result (λ i. IsFound key es i) (λ i. IsGap key es i)

-- The bytes are the value of an entry.
pub record IsValueAt (node : Node) (i : ℕ) (bytes : List ℕ) : Type 0 where
  pub value : bytes ≡ value_at node.entries i
  pub short : length bytes ≤ 1024
  pub child : 0 < node.level → length bytes ≡ 4
