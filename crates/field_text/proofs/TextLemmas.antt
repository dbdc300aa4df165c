-- Lines and fields, one after the other.
use Rattle.std.{specs.Str.Lines.{lines, lines_of_parts, strip_carriage_return}, proofs.Math.Dec.eqb-suc-zero}
use Rattle.std.proofs.Common.{◌≡◌, ℕ, ◌<◌, false, List, [], ◌∷◌, ◌++◌, length, take, drop, refl, ap, ◌∙◌, arith, eqb, All, ◌-◌, rules}
use Rattle.std.proofs.lemmas.List.Splits.{slice_split_at, slice_split_none, length-slice_split}

lines_of_parts-cons : (x : List ℕ) (parts : List (List ℕ)) → 0 < length parts → lines_of_parts (x ∷ parts) ≡ strip_carriage_return x ∷ lines_of_parts parts
lines_of_parts-cons x [] some = absurd (omega arith)
lines_of_parts-cons x (y ∷ more) some = refl

-- the first line ends at the first line feed
pub lines-cut : (line rest : List ℕ) → All (λ b. eqb b 10 ≡ false) line → lines (line ++ 10 ∷ rest) ≡ strip_carriage_return line ∷ lines rest
lines-cut line rest none = search (rules, slice_split_at, lines_of_parts-cons, length-slice_split)

unended : (line : List ℕ) → 0 < length line → lines_of_parts (line ∷ []) ≡ line ∷ []
unended [] some = absurd (omega arith)
unended (x ∷ xs) some = rw (eqb-suc-zero (length xs)) refl

-- the last line may lack its end
pub lines-last : (line : List ℕ) → All (λ b. eqb b 10 ≡ false) line → 0 < length line → lines line ≡ line ∷ []
lines-last line none some = ap lines_of_parts (slice_split_none (λ b. eqb b 10) line none) ∙ unended line some

pub lines-past : (text : List ℕ) → lines (take (length text - length text) (drop (length text) text)) ≡ []
lines-past text = let none : length text - length text ≡ 0 = omega arith in ap (λ (n : ℕ). lines (take n (drop (length text) text))) none
