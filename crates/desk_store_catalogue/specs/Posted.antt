-- What a body says that was read.
use Rattle.std.specs.Prelude.{◌≡◌, ℕ, List, length, Option, Result, IsOkAnd}
use Rattle.{baf_text.specs.Listed.listed_of, desk_model.specs.claim.{Baf.{Values, Fault, whole}, Geography.GeographyModel}}

-- the district of each block that it lists
abbrev pub IsListed : GeographyModel → Result Values Fault → List (Option ℕ) → Type 0
IsListed g reading listed = IsOkAnd reading (λ values. listed ≡ listed_of g values)

-- the district of each block, 0 where it doesn't list the block
pub record IsPosted (g : GeographyModel) (reading : Result Values Fault) (districts : List ℕ) : Type 0 where
  pub is : IsOkAnd reading (λ values. districts ≡ whole g values)
  pub long : length districts ≡ length g.blocks
