-- What no promise rests on, beside claim/Name.antt.
use Rattle.std.{specs.Prelude.{◌≡◌, ℕ, ◌≤◌, ◌-◌, List, ◌++◌, length, take, drop, replicate}, proofs.Common.{arith, take-append-drop, length-take-le}}

pub length_again : (len : ℕ) (cells : List ℕ) → len ≤ 64 → length cells ≡ 64 → length (take len cells) ≡ len
length_again len cells few whole = length-take-le len cells (omega arith)

pub padded_again : (len : ℕ) (cells : List ℕ) → len ≤ 64 → length cells ≡ 64 → drop len cells ≡ replicate (64 - len) 0
    → take len cells ++ replicate (64 - length (take len cells)) 0 ≡ cells
padded_again len cells few whole zeros =
    rw (length_again len cells few whole, ← zeros) (take-append-drop len cells)
