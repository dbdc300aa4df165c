-- Where a key stands among entries whose keys rise.
use Rattle.std.specs.{Cmp.Lexicographic.slice_cmp, FinMap.is_sorted, Ordering.nat_cmp, Prelude.{◌≡◌, ℕ, true, List}, declared.cmp.Ordering.Ordering}
use Rattle.page_btree_node.specs.claim.Entries.{Entry}

-- keys in the order of their bytes, a key before its longer continuations
abbrev pub key_cmp : List ℕ → List ℕ → Ordering
key_cmp = slice_cmp nat_cmp

-- keys rise strictly
abbrev pub Rises : List Entry → Type 0
Rises es = is_sorted key_cmp es ≡ true
