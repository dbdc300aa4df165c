-- Keys in the order of their bytes.
use Rattle.std.specs.{Cmp.Lexicographic.slice_cmp, Ordering.nat_cmp, Prelude.{ℕ, List}, declared.cmp.Ordering.Ordering}

-- keys by their bytes
abbrev pub key_cmp : List ℕ → List ℕ → Ordering
key_cmp = slice_cmp nat_cmp
