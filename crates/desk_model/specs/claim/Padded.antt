-- Numbers in a fixed width.
use Rattle.std.specs.Prelude.{ℕ, ◌+◌, ◌-◌, List, ◌++◌, length, decimal, replicate}

-- at least this many digits
abbrev pub padded_decimal : ℕ → ℕ → List ℕ
padded_decimal width n = replicate (width - length (decimal n)) 48 ++ decimal n
