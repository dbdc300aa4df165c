-- The one printed form of a plan's revision.
use Rattle.std.specs.{List.{flat_map, zip}, Prelude.{ℕ, ◌+◌, if◌then◌else◌, ◌==◌, List, [], ◌∷◌, ◌++◌, codes}}
use Rattle.desk_model.specs.{claim.{Baf.header, Geography.{GeographyModel, ids}, Padded.padded_decimal}, declared.kind.Kind.{Kind, TheVariants.{Congress, Senate, House}}}

abbrev pub code_text : Kind → ℕ → List ℕ
code_text Congress d = if d == 0 then codes "ZZ" else padded_decimal 2 d
code_text Senate d = if d == 0 then codes "ZZZ" else padded_decimal 3 d
code_text House d = if d == 0 then codes "ZZZ" else padded_decimal 3 d

abbrev pub row_text : Kind → ℕ × ℕ → List ℕ
row_text kind row = padded_decimal 15 row.0 ++ 124 ∷ code_text kind row.1 ++ 10 ∷ []

-- the one printed form
abbrev pub printed : GeographyModel → Kind → List ℕ → List ℕ
printed g kind districts = header ++ 10 ∷ flat_map (row_text kind) (zip (ids g) districts)
