-- One byte, sought and counted in blocks.
use Rattle.std.proofs.{Common.{◌≡◌, ℕ, ◌+◌, ◌-◌, Bool, false, ◌||◌, List, length, take, drop, All, eqb, arith}, Math.Seq.take-add, lemmas.{Bool.or_parts, List.take_rest}}
use Rattle.std.proofs.lemmas.List.Elements.{All-append}

pub first_no : (a b : Bool) → (a || b) ≡ false → a ≡ false
first_no a b is = (or_parts a b is).0

pub second_no : (a b : Bool) → (a || b) ≡ false → b ≡ false
second_no a b is = (or_parts a b is).1

-- one block more without the byte
pub none_more : (text : List ℕ) (byte at n : ℕ) → All (λ b. eqb b byte ≡ false) (take at text) → All (λ b. eqb b byte ≡ false) (take (at + n - at) (drop at text))
    → All (λ b. eqb b byte ≡ false) (take (at + n) text)
none_more text byte at n before block =
    let e : at + n - at ≡ n = omega arith in rw take-add (All-append (λ b. eqb b byte ≡ false) (take at text) (take n (drop at text)) before (rw e at block))

-- the byte isn't before a place in the rest
pub none_before : (text : List ℕ) (byte at n : ℕ) → All (λ b. eqb b byte ≡ false) (take at text)
    → All (λ b. eqb b byte ≡ false) (take n (take (length text - at) (drop at text))) → All (λ b. eqb b byte ≡ false) (take (at + n) text)
none_before text byte at n before rest =
    rw take-add (All-append (λ b. eqb b byte ≡ false) (take at text) (take n (drop at text)) before (rw take_rest at rest))
