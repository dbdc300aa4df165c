-- The line that names a difference.
use Rattle.std.specs.Prelude.{ℕ, List, ◌++◌, codes}
use Rattle.{census_difference.specs.declared.difference.Difference.Difference, desk_model.specs.claim.Padded.padded_decimal}
use Rattle.census_difference.specs.declared.difference.Difference.TheVariants.{NotSealed, MissingBlock, ExtraBlock, OtherCity, OtherPopulation, MissingPair, ExtraPair}

-- a block's number in fifteen digits, after these words
abbrev pub with_id : (words : List ℕ) → (id : ℕ) → List ℕ
with_id words id = words ++ padded_decimal 15 id

abbrev pub difference_words : Difference → List ℕ
difference_words NotSealed = codes "NotSealed"
difference_words (MissingBlock id) = with_id (codes "MissingBlock ") id
difference_words (ExtraBlock id) = with_id (codes "ExtraBlock ") id
difference_words (OtherCity id) = with_id (codes "OtherCity ") id
difference_words (OtherPopulation id) = with_id (codes "OtherPopulation ") id
difference_words (MissingPair one other) = with_id (codes "MissingPair ") one ++ with_id (codes " ") other
difference_words (ExtraPair one other) = with_id (codes "ExtraPair ") one ++ with_id (codes " ") other

abbrev pub difference_line : Difference → List ℕ
difference_line d = codes "plandesk: store: " ++ difference_words d ++ codes "\n"
