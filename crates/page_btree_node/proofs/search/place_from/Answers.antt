use Rattle.{std.{specs.{Ordering.{is_gt, is_lt}, declared.cmp.Ordering.TheVariants.Less}, proofs.lemmas.List.length-drop}, page_btree_node.specs.{Entries.key_at, Walking.IsAhead}}
use Rattle.{std.proofs.Common.{◌≡◌, ℕ, ◌+◌, ◌-◌, ◌<◌, ◌≤◌, List, length, take, true, false, arith, ◌∙◌, below_more}, page_btree_node.specs.Places.entries_from}
use Rattle.page_btree_node.{specs.claim.{Entries.size_of, Node.{Node, IsNode}, Places.key_cmp}, proofs.Laws.{entries_from_at, from_middle, not_below, is_less}}
use Rattle.page_btree_node.proofs.{Scanning.{told_of, end_of}, Walking.node_ahead_at}
use Rattle.page_btree_node.proofs.search.place_from.Goals as goal

found : (page key : List ℕ) (node : Node) (k at left : ℕ) → IsNode page node → at ≡ 4 + size_of (take k node.entries) → k ≤ length node.entries → left ≡ length node.entries - k → ((j : ℕ) → j < k → key_cmp (key_at node.entries j) key ≡ Less) → ((j : ℕ) → k ≤ j → j < length node.entries → is_gt (key_cmp key (key_at node.entries j)) ≡ false)
    → IsAhead page at (entries_from key node.entries) × (left ≡ length (entries_from key node.entries))
found page key node k at left is place within left_is below from =
    search (entries_from_at key node.entries k within below from, node_ahead_at page node k at is place, length-drop k node.entries)

pub returns-then-not-is_below-clause-place : goal.returns-then-not-is_below-clause-place
returns-then-not-is_below-clause-place c = λ node is rises.
    let place = c.loop-k.invariant node is in
    let from = told_of is_lt _ c.args.key.now node c.loop-k.k c.loop-k.at _ _ _ is (omega arith) place.0 c.in-Some-bounds_in.ensures.some c.is_below.ensures ∙ c.if-not-is_below.true in
    found _ c.args.key.now node c.loop-k.k c.loop-k.at _ is place.0 (omega arith) (omega arith) (place.1 rises)
    (from_middle node.entries c.args.key.now c.loop-k.k rises (not_below (key_at node.entries c.loop-k.k) c.args.key.now from))

pub loop-k-preserved : goal.loop-k-preserved
loop-k-preserved c = λ node is.
    let lies = c.in-Some-bounds_in.ensures.some in
    let place = c.loop-k.invariant node is in
    let below = told_of is_lt _ c.args.key.now node c.loop-k.k c.loop-k.at _ _ _ is (omega arith) place.0 lies c.is_below.ensures ∙ c.if-not-is_below.false in
    (end_of _ node c.loop-k.k c.loop-k.at _ _ is (omega arith) place.0 lies, λ rises. below_more _ _ (place.1 rises) (is_less _ below))

pub returns-clause-place : goal.returns-clause-place
returns-clause-place c = λ node is rises.
    let few : c.in-Some.near.k ≤ c.count_of-count.result = let most = c.in-Some.ensures.within.2 in let count_is = c.count_of-count.ensures.count in omega arith in
    let place = c.loop-k.invariant node is in
    found _ c.args.key.now node c.loop-k.k c.loop-k.at 0 is place.0 (omega arith) (omega arith) (place.1 rises) (λ j le less. absurd (omega arith))
