-- A block's number as it is printed with 15 digits.
use Rattle.{std.{specs.Fmt.{padded_integral, format_spec, char_count}, proofs.lemmas.List.append-nil}, desk_model.specs.claim.Padded.padded_decimal}
use Rattle.{std.proofs.Common.{◌≡◌, ℕ, ◌-◌, ◌^◌, List, [], ◌∷◌, ◌++◌, codes, false, decimal, ap, sym, ◌∙◌, append_assoc, rules}, gal_text.specs.claim.Texts.block_text}

pub padded_id : (n : ℕ) → padded_integral (format_spec 32 0 4 15 (2 ^ 64 - 1)) false [] (decimal n) ≡ padded_decimal 15 n
unfolding padded_integral char_count
padded_id n = search (rules, append-nil)

-- a code, a blank and a number laid out with 15 digits
pub block_shown : (code shown : List ℕ) (id : ℕ) → shown ≡ padded_decimal 15 id → code ++ 32 ∷ shown ≡ block_text code id
block_shown code shown id same = ap (λ (l : List ℕ). code ++ 32 ∷ l) same ∙ sym (append_assoc code (codes " ") (padded_decimal 15 id))
