use Rattle.{std.proofs.Common.{◌≡◌, ◌≤◌, ◌++◌, ◌∷◌, ℕ, List, [], length, take, drop}, page_btree_gets.specs.node.claim.Entries.Entry}
use Rattle.page_btree_puts.specs.Putting.{after_child, linked}
use Rattle.page_btree_puts.proofs.tree.place_after.Given as goal

-- linked from a place on
abbrev pub linked_at : List ℕ → Entry → List Entry → ℕ → List Entry
linked_at key new es i = take i es ++ after_child key (new ∷ []) (drop i es)

abbrev pub invariant-loop-i : goal.invariant-loop-i
invariant-loop-i l = (l.i ≤ length l.node.entries) × ((new : Entry) → linked l.key (new ∷ []) l.node.entries ≡ linked_at l.key new l.node.entries l.i)
