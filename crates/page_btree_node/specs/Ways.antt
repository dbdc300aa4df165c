-- Ways from a node down to children that follow one another.
use Rattle.{std.specs.{List.starts_with, Option.{option_map, option_copied}}, page_btree_node.specs.{Bytes.LiesAt, Entries.child_in, Places.{floor, ceiling}, Walking.part_of}}
use Rattle.std.specs.Prelude.{◌≡◌, ◌+◌, ℕ, zero, suc, true, List, Option, Some, nat_eq, get_or, drop, length, Result, IfOk, IfSome, IsSomeAnd, OnErr, ◌<◌, ◌≤◌}
use Rattle.page_btree_node.specs.{Searching.{IsTurn, RisesAfter, NoWayDown}, claim.{Entries.Entry, Node.{Node, IsNode}}, declared.{scan.NotANode.NotANode, search.Above.Above}}
use Rattle.page_btree_node.specs.declared.{search.Way.Way, ways.{Followed.Followed, Ways.Ways}}

-- a bound that begins with the prefix, and what holds of the way from it on
pub record IsFollowed (prefix : List ℕ) (bound : Option (List ℕ)) (After : List ℕ → Type 0) : Type 0 where
  pub key : List ℕ
  pub key_is : bound ≡ Some key
  pub under : starts_with nat_eq key prefix ≡ true
  pub rest : After key

-- The child that a key belongs to, and so many children after it: the keys of each begin where those of the one before end, at a
-- key that begins with the prefix. The last one's end at the bound.
abbrev pub AreWays : List ℕ → List Entry → List ℕ → ℕ → ℕ → List ℕ → Option (List ℕ) → Type 0
AreWays prefix es key child zero after bound = (option_map child_in (floor key es) ≡ Some child) × (bound ≡ ceiling key es)
AreWays prefix es key child (suc more) after bound = (option_map child_in (floor key es) ≡ Some child)
    × IsFollowed prefix (ceiling key es) (λ b. AreWays prefix es b (get_or after 0 0) more (drop 1 after) bound)

-- an entry lies in the page, whose key begins with the prefix
pub record IsUnder (page prefix : List ℕ) (a : Above) : Type 0 where
  pub lies : LiesAt page a.at a.value a.end
  pub under : starts_with nat_eq (part_of page (a.at + 3) a.value) prefix ≡ true

-- from an entry that a key's turn found, at most three ways were followed to the bound: of each node that the page stands for
pub record FollowsWays (page prefix : List ℕ) (first : Above) (after : List ℕ) (found : Followed) : Type 0 where
  pub few : found.more ≤ 3
  pub there : IsUnder page prefix found.bound
  pub ways : (node : Node) → IsNode page node → RisesAfter node.entries → (key : List ℕ) (child : ℕ) → IsTurn key node.entries first.k first.at
      → option_map child_in (floor key node.entries) ≡ Some child
      → AreWays prefix node.entries key child found.more after (Some (part_of page (found.bound.at + 3) found.bound.value))

-- the page stands for no inner node in which it is one that a key's turn finds
abbrev pub NoneFollows : List ℕ → Above → Type 0
NoneFollows page first = (node : Node) → IsNode page node → (key : List ℕ) → IsTurn key node.entries first.k first.at → 0 < node.level → ⊥

-- The ways that were found from a key on are those of each node that the page stands for.
pub record FindsWays (page key prefix after : List ℕ) (result : Result Ways NotANode) : Type 0 where
  pub ways : (node : Node) → IsNode page node → RisesAfter node.entries
      → IfOk result (λ ways. AreWays prefix node.entries key ways.child ways.more after (option_copied ways.bound))
  pub few : IfOk result (λ ways. ways.more ≤ 3)
  pub under : IfOk result (λ ways. 0 < ways.more → IsSomeAnd ways.bound (λ bound. starts_with nat_eq bound.now prefix ≡ true))
  pub short : IfOk result (λ ways. IfSome ways.bound (λ bound. length bound.now ≤ 72))
  pub err : OnErr result (NoWayDown page key)

-- The child to which a key belongs was found, and the first key that is above it.
pub record FindsWay (page key : List ℕ) (result : Result Way NotANode) : Type 0 where
  pub child : (node : Node) → IsNode page node → RisesAfter node.entries
      → IfOk result (λ way. option_map child_in (floor key node.entries) ≡ Some way.child)
  pub bound : (node : Node) → IsNode page node → RisesAfter node.entries
      → IfOk result (λ way. option_copied way.bound ≡ ceiling key node.entries)
  pub short : IfOk result (λ way. IfSome way.bound (λ bound. length bound.now ≤ 72))
  pub err : OnErr result (NoWayDown page key)
