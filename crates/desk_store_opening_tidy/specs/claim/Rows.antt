-- Rows that stand where a store has none.
use Rattle.std.specs.{Ordering.is_gt, Prelude.{◌≡◌, ℕ, List, false}}
use Rattle.page_btree.specs.node.claim.Places.{key_cmp}

-- a key isn't below another one
abbrev pub IsFrom : List ℕ → List ℕ → Type 0
IsFrom key other = is_gt (key_cmp key other) ≡ false
