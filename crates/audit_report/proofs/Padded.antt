-- Numbers with zeros before them.
use Rattle.std.{specs.Fmt.{decimal, padded_integral, format_spec, char_count}, proofs.{Common.{rules, ◌≡◌, ℕ, ◌-◌, ◌^◌, false, []}, lemmas.List.append-nil}}
use Rattle.desk_model.specs.claim.Padded.{padded_decimal}

pub padded_zeros : (width n : ℕ) → padded_integral (format_spec 32 0 4 width (2 ^ 64 - 1)) false [] (decimal n) ≡ padded_decimal width n
unfolding padded_integral char_count
padded_zeros width n = search (rules, append-nil)
