-- What a printed text says.
use Rattle.std.specs.{List.zip, Prelude.{◌≡◌, ℕ, ◌<◌, ◌≤◌, ◌^◌, List, map, length, Some, Ok, All}}
use Rattle.{baf_text.specs.Listed.listed_of, desk_model.specs.claim.{Baf.body_read, Geography.{GeographyModel, ids}, GeographyModels.AreBlocks, Printed.printed}}
use Rattle.desk_model.specs.{claim.Sizes.most_districts, declared.kind.Kind.Kind}

-- the district of each block, rising, 0 for none, and none above n
pub record IsAssignment (g : GeographyModel) (n : ℕ) (f : List ℕ) : Type 0 where
  pub whole : length f ≡ length g.blocks
  pub in_range : All (λ d. d ≤ n) f

-- the printed text is read as that assignment, each block listed with its district, and no other assignment has the text
pub record IsReadAgain (g : GeographyModel) (kind : Kind) (n : ℕ) (f : List ℕ) : Type 0 where
  pub read : body_read g n (printed g kind f) ≡ Ok (zip (ids g) f)
  pub values : listed_of g (zip (ids g) f) ≡ map (λ d. Some d) f
  pub alone : (other : List ℕ) → IsAssignment g n other → printed g kind other ≡ printed g kind f → other ≡ f

-- for the blocks of a state, whose numbers have at most 15 digits
abbrev pub PrintedIsRead : Type 0
PrintedIsRead = (g : GeographyModel) (kind : Kind) (n : ℕ) (f : List ℕ) → AreBlocks g.blocks
    → All (λ id. id < 10 ^ 15) (ids g) → n ≤ most_districts kind → IsAssignment g n f
    → IsReadAgain g kind n f
