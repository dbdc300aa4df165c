-- Two texts that are written one after the other.
use Rattle.std.{specs.Io.KnownBytes.Appends, proofs.{KnownBytes.Appends-trans, Math.Seq.{take-add, drop-append-add}, lemmas.List.take_rest}}
use Rattle.std.proofs.Common.{◌≡◌, ℕ, ◌+◌, ◌-◌, ◌≤◌, List, ◌++◌, length, take, drop, Option, sym, subst, arith, length-drop, length-append, take-append-drop, rules}

-- one piece more of the bytes, from what is left of them
pub piece_more : (a b c : Option (List ℕ)) (bytes : List ℕ) (done n : ℕ) → Appends a b (take done bytes) → Appends b c (take n (drop done bytes)) → Appends a c (take (done + n) bytes)
piece_more a b c bytes done n p q = subst (Appends a c) (sym (take-add done n bytes)) (Appends-trans a b c (take done bytes) (take n (drop done bytes)) p q)

-- what was written is a prefix of the bytes
pub piece_prefix : (a b : Option (List ℕ)) (bytes : List ℕ) (done : ℕ) → Appends a b (take done bytes) → (prefix : List ℕ) × (rest : List ℕ) × (bytes ≡ prefix ++ rest) × Appends a b prefix
piece_prefix a b bytes done p = (take done bytes, drop done bytes, sym (take-append-drop done bytes), p)

-- and it is within them
pub piece_within : (first second : List ℕ) (done n : ℕ) → n ≤ length (drop done (first ++ second)) → done ≤ length first + length second → done + n ≤ length first + length second
piece_within first second done n h within = omega (arith, h, within, length-drop done (first ++ second), length-append first second)

-- what is left where the first is whole
pub past_first : (first second : List ℕ) (done : ℕ) → length first ≤ done → drop done (first ++ second) ≡ take (length second - (done - length first)) (drop (done - length first) second)
past_first first second done h = search (rules, drop-append-add, take_rest)
