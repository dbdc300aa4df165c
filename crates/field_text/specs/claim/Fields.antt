-- The fields of a line.
use Rattle.std.specs.{List.slice_split, Prelude.{ℕ, ◌==◌, List}}

-- the parts between bars
abbrev pub fields : List ℕ → List (List ℕ)
fields line = slice_split (λ b. b == 124) line
