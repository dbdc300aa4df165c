-- What a block assignment file lists, without an order of reading.
use Rattle.{std.specs.{List.slice_get, Str.Lines.lines}, desk_model.specs.claim.{Baf.{Values, header, fields_of, in_range, line_read, body_read}, Geography.{GeographyModel, ids}}}
use Rattle.std.specs.Prelude.{◌≡◌, ◌≢◌, ◌↔◌, ◌⊎◌, ℕ, ◌+◌, not, ◌==◌, List, ◌∷◌, ◌++◌, map, filter, drop, length, Option, Some, None, Ok, Err, All, AllPairs, Contains}
use Rattle.{desk_model.specs.declared.reply.BodyFault.{BodyFault, TheVariants.Header}, field_text.specs.claim.Fields.fields}

abbrev pub with_district : ℕ → Option ℕ → Option (ℕ × ℕ)
with_district id None = None
with_district id (Some d) = Some (id, d)

-- the block and the district, 1 to n or 0 for none, that the fields of a line write, if they do
abbrev pub value_of : ℕ → Option (ℕ × Option ℕ) → Option (ℕ × ℕ)
value_of n None = None
value_of n (Some e) = with_district e.0 (in_range n e.1)

-- the lines after the first that have bytes
abbrev pub rows : List (List ℕ) → List (List ℕ)
rows ls = filter (λ line. not (length line == 0)) (drop 1 ls)

-- the first line is the header, each other with bytes lists a block of the geography with its district, and no block is listed twice
pub record IsBody (g : GeographyModel) (n : ℕ) (ls : List (List ℕ)) (values : Values) : Type 0 where
  pub first : slice_get ls 0 ≡ Some header
  pub rows : map (λ line. value_of n (fields_of (fields line))) (rows ls) ≡ map (λ e. Some e) values
  pub known : All (λ e. Contains (ids g) e.0) values
  pub once : AllPairs (λ d e. d.0 ≢ e.0) values

-- a text is read as these values exactly where it lists them
abbrev pub ReadIsListed : Type 0
ReadIsListed = (g : GeographyModel) (n : ℕ) (text : List ℕ) (values : Values) → (body_read g n text ≡ Ok values) ↔ IsBody g n (lines text) values

-- the lines before a line with bytes are a body, and that line has the fault; lines are counted from 1
pub record IsFaultyLine (g : GeographyModel) (n : ℕ) (ls : List (List ℕ)) (code : BodyFault) (at : ℕ) : Type 0 where
  pub before : List (List ℕ)
  pub line : List ℕ
  pub after : List (List ℕ)
  pub values : Values
  pub cut : ls ≡ before ++ line ∷ after
  pub number : at ≡ length before + 1
  pub body : IsBody g n before values
  pub bytes : length line ≢ 0
  pub fault : line_read g n values (fields_of (fields line)) ≡ Err code

-- the first line isn't the header
pub record HasNoHeader (ls : List (List ℕ)) (code : BodyFault) (at : ℕ) : Type 0 where
  pub told : code ≡ Header
  pub number : at ≡ 1
  pub first : slice_get ls 0 ≢ Some header

-- a fault is told of a text exactly where it is the first
abbrev pub FaultIsFirst : Type 0
FaultIsFirst = (g : GeographyModel) (n : ℕ) (text : List ℕ) (code : BodyFault) (at : ℕ)
    → (body_read g n text ≡ Err (code, at)) ↔ (HasNoHeader (lines text) code at ⊎ IsFaultyLine g n (lines text) code at)
