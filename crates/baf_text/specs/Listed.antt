-- The blocks that a text lists, and a text's fault.
use Rattle.std.specs.Prelude.{◌≡◌, ◌≢◌, ◌≤◌, ◌+◌, ◌-◌, ℕ, zero, suc, nat_lt, List, [], ◌∷◌, map, length, get_or, slice_set, Option, Some, None, Result, Ok, Err, IsOkAnd, if◌then◌else◌, ◌==◌}
use Rattle.{baf_text.specs.declared.reading.BafFault.{BafFault, TheVariants.{Body, Memory}}, desk_model.specs.claim.Baf.{Values, value_at, fields_of, line_read}}
use Rattle.{desk_model.specs.{claim.Geography.{GeographyModel, ids}, declared.reply.BodyFault.BodyFault}, field_text.specs.claim.Fields.fields}

-- the value of each block, rising: nothing where a block isn't listed
abbrev pub listed_of : GeographyModel → Values → List (Option ℕ)
listed_of g values = map (value_at values) (ids g)

-- what is listed of a place, where the list stands from the place `first` on
abbrev pub part_at : ℕ → List (Option ℕ) → ℕ → Option ℕ
part_at first part place = if nat_lt place first then None else get_or part (place - first) None

-- so many places, of which nothing is listed before the first one or after the part that stands there
abbrev pub spread : ℕ → List (Option ℕ) → ℕ → List (Option ℕ)
spread first part zero = []
spread zero [] (suc n) = None ∷ spread zero [] n
spread zero (x ∷ part) (suc n) = x ∷ spread zero part n
spread (suc first) part (suc n) = None ∷ spread first part n

-- a list is the part that stands from a place on, and nothing else is listed
pub record IsListedPart (first : ℕ) (part listed : List (Option ℕ)) : Type 0 where
  pub within : first + length part ≤ length listed
  pub there : (k : ℕ) → get_or listed k None ≡ part_at first part k

-- two parts list the same
abbrev pub IsAlike : ℕ → List (Option ℕ) → ℕ → List (Option ℕ) → Type 0
IsAlike first part first_now part_now = (k : ℕ) → part_at first_now part_now k ≡ part_at first part k

-- a part lists one place's district besides
pub record IsEntered (place district : ℕ) (first : ℕ) (part : List (Option ℕ)) (first_now : ℕ) (part_now : List (Option ℕ)) : Type 0 where
  pub there : part_at first_now part_now place ≡ Some district
  pub others : (k : ℕ) → k ≢ place → part_at first_now part_now k ≡ part_at first part k

-- what a line without its end makes of the values before it
abbrev pub line_result : GeographyModel → ℕ → Values → List ℕ → Result Values BodyFault
line_result g n so_far line = if length line == 0 then Ok so_far else line_read g n so_far (fields_of (fields line))

-- a line may be entered as the district of the block at a place, or it has that fault
abbrev pub IsEntry : GeographyModel → ℕ → Values → List ℕ → List (Option ℕ) → Result (ℕ × ℕ) BodyFault → Type 0
IsEntry g n so_far line listed (Ok entry) =
    IsOkAnd (line_read g n so_far (fields_of (fields line))) (λ values. slice_set listed entry.0 (Some entry.1) ≡ listed_of g values)
IsEntry g n so_far line listed (Err fault) = line_read g n so_far (fields_of (fields line)) ≡ Err fault

-- a line was taken: the list has its block besides, or the line has that fault; want of memory says nothing of the line
abbrev pub IsLineTaken : GeographyModel → ℕ → Values → List ℕ → ℕ → Result ℕ BafFault → List (Option ℕ) → Type 0
IsLineTaken g n so_far line number (Ok place) new = IsOkAnd (line_result g n so_far line) (λ values. new ≡ listed_of g values)
IsLineTaken g n so_far line number (Err (Body code at)) new = (line_result g n so_far line ≡ Err code) × (at ≡ number)
IsLineTaken g n so_far line number (Err Memory) new = Unit {0}
