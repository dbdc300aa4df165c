-- Counts of 64 bits.
use Rattle.std.specs.Prelude.{ℕ, ◌+◌, ◌-◌, ◌^◌, min}

-- the count n after k more, as far as 64 bits go
abbrev pub counted : ℕ → ℕ → ℕ
counted n k = n + min k (2 ^ 64 - 1 - n)
