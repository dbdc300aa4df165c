-- A plan's districts from what its file lists.
use Rattle.{std.{specs.Prelude.unwrap_or, proofs.Common.{◌≡◌, ℕ, List, [], ◌∷◌, map, Option, Result, Ok, Err, IsOkAnd, refl, ap, ◌∙◌}}, baf_text.specs.Listed.listed_of}
use Rattle.desk_model.specs.{claim.{Baf.{Values, Fault, value_at, whole}, Geography.{GeographyModel, ids_of}}, declared.block.BlockRow.BlockRow}

in_turn : (values : Values) (blocks : List BlockRow) → map (λ (d : Option ℕ). unwrap_or d 0) (map (value_at values) (ids_of blocks)) ≡ map (λ (b : BlockRow). unwrap_or (value_at values b.id) 0) blocks
in_turn values [] = refl
in_turn values (b ∷ bs) = ap (λ (more : List ℕ). unwrap_or (value_at values b.id) 0 ∷ more) (in_turn values bs)

-- what was read is the assignment of the whole
pub read_whole : (reading : Result Values Fault) (g : GeographyModel) (listed : List (Option ℕ)) (districts : List ℕ) → IsOkAnd reading (λ values. listed ≡ listed_of g values)
    → districts ≡ map (λ (d : Option ℕ). unwrap_or d 0) listed → IsOkAnd reading (λ values. districts ≡ whole g values)
read_whole (Err f) g listed districts said is = said
read_whole (Ok values) g listed districts said is = is ∙ ap (map (λ (d : Option ℕ). unwrap_or d 0)) said ∙ in_turn values g.blocks
