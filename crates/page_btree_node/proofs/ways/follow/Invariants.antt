use Rattle.{std.{specs.{List.starts_with, Option.option_map, Prelude.Some}, proofs.Common.{◌≡◌, ◌<◌, ◌+◌, ℕ, List, true, nat_eq}}, page_btree_node.specs.Bytes.LiesAt}
use Rattle.page_btree_node.specs.{Entries.{key_at, child_in}, Places.floor, Searching.{IsTurn, RisesAfter}, Walking.part_of, Ways.AreWays, claim.Node.{Node, IsNode}}
use Rattle.page_btree_node.proofs.Following.{IsHere}
use Rattle.page_btree_node.proofs.ways.follow.Given as goal

abbrev pub invariant-loop-more : goal.invariant-loop-more
invariant-loop-more l =
    (l.bound.k < 65536) × LiesAt l.page l.bound.at l.bound.value l.bound.end
    × (starts_with nat_eq (part_of l.page (l.bound.at + 3) l.bound.value) l.prefix ≡ true)
    × ((node : Node) → IsNode l.page node → (key : List ℕ) → IsTurn key node.entries l.fn.first.k l.fn.first.at → IsHere node.entries l.bound.k l.bound.at)
    × ((node : Node) → IsNode l.page node → RisesAfter node.entries → (key : List ℕ) (child : ℕ) → IsTurn key node.entries l.fn.first.k l.fn.first.at → option_map child_in (floor key node.entries) ≡ Some child
    → AreWays l.prefix node.entries key child l.more l.after (Some (key_at node.entries l.bound.k)))
