-- What no promise rests on, beside claim/Order.antt.
use Rattle.std.specs.{Ordering.nat_cmp, Prelude.{◌≡◌, ◌<◌, ◌^◌, ℕ, List, ◌++◌}}
use Rattle.desk_store_rows.specs.claim.{Keys.{RowKey, key_of, Fits, in_two, in_four, in_eight}, Order.key_cmp}

-- different rows have different keys
abbrev pub KeysDiffer : Type 0
KeysDiffer = (a b : RowKey) → Fits a → Fits b → key_of a ≡ key_of b → a ≡ b

-- after what two keys have in common, their numbers decide
abbrev pub NumbersDecide : Type 0
NumbersDecide = (prefix : List ℕ) (m n : ℕ) →
    (m < 2 ^ 16 → n < 2 ^ 16 → key_cmp (prefix ++ in_two m) (prefix ++ in_two n) ≡ nat_cmp m n)
    × (m < 2 ^ 32 → n < 2 ^ 32 → key_cmp (prefix ++ in_four m) (prefix ++ in_four n) ≡ nat_cmp m n)
    × (m < 2 ^ 64 → n < 2 ^ 64 → key_cmp (prefix ++ in_eight m) (prefix ++ in_eight n) ≡ nat_cmp m n)
