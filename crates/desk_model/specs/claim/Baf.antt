-- Block assignment files (the Census Bureau's layout BLOCKID|DISTRICT), read and printed.
use Rattle.std.specs.{Char.is_ascii_digit, Cmp.Lexicographic.pointwise, List.{list_all, slice_split, list_any}, Str.{Lines.lines, Parse.digits_value}}
use Rattle.std.specs.Prelude.{ℕ, ◌+◌, Bool, not, ◌&&◌, ◌||◌, if◌then◌else◌, ◌==◌, nat_le, List, [], ◌∷◌, ◌++◌, length, Option, Some, None, Result, Ok, Err, codes, nat_eq, is_some, map, unwrap_or}
use Rattle.desk_model.specs.{claim.Geography.{GeographyModel, ids}, declared.reply.BodyFault.{BodyFault, TheVariants.{Header, Shape, UnknownBlock, RepeatedBlock, OutOfRange}}}

abbrev pub header : List ℕ
header = codes "BLOCKID|DISTRICT"

-- the listed blocks with their values, in the order of the lines
abbrev pub Values : Type 0
Values = List (ℕ × ℕ)

-- the value of a block, if it is listed
abbrev pub value_at : Values → ℕ → Option ℕ
value_at [] id = None
value_at (e ∷ more) id = if e.0 == id then Some e.1 else value_at more id

-- a line's fault and its number
abbrev pub Fault : Type 0
Fault = BodyFault × ℕ

-- a fault's code
abbrev pub fault_code : BodyFault → List ℕ
fault_code Header = codes "B1"
fault_code Shape = codes "B2"
fault_code UnknownBlock = codes "B3"
fault_code RepeatedBlock = codes "B4"
fault_code OutOfRange = codes "B5"

abbrev pub are_digits : ℕ → List ℕ → Bool
are_digits n bytes = (length bytes == n) && list_all is_ascii_digit bytes

-- the value of a code, 0 for none: nothing where its shape is wrong
abbrev pub code_value : List ℕ → Option (Option ℕ)
code_value code =
    if (length code == 0) || pointwise nat_eq code (codes "ZZ") || pointwise nat_eq code (codes "ZZZ") then Some None
    else if nat_le (length code) 3 && list_all is_ascii_digit code then Some (Some (digits_value 10 code))
    else None

abbrev pub with_id : ℕ → Option (Option ℕ) → Option (ℕ × Option ℕ)
with_id id None = None
with_id id (Some value) = Some (id, value)

-- a block and what its code says
abbrev pub fields_of : List (List ℕ) → Option (ℕ × Option ℕ)
fields_of [] = None
fields_of (id ∷ []) = None
fields_of (id ∷ code ∷ x ∷ more) = None
fields_of (id ∷ code ∷ []) = if are_digits 15 id then with_id (digits_value 10 id) (code_value code) else None

-- a number is 1 to n
abbrev pub in_range : ℕ → Option ℕ → Option ℕ
in_range n None = Some 0
in_range n (Some d) = if nat_le 1 d && nat_le d n then Some d else None

abbrev pub placed : Values → ℕ → Option ℕ → Result Values BodyFault
placed so_far id None = Err OutOfRange
placed so_far id (Some d) = Ok (so_far ++ (id, d) ∷ [])

-- the values with one more line
abbrev pub line_read : GeographyModel → ℕ → Values → Option (ℕ × Option ℕ) → Result Values BodyFault
line_read g n so_far None = Err Shape
line_read g n so_far (Some e) =
    if not (list_any (λ id. id == e.0) (ids g)) then Err UnknownBlock
    else if is_some (value_at so_far e.0) then Err RepeatedBlock
    else placed so_far e.0 (in_range n e.1)

-- the line's number goes into its fault, and what comes after it goes on from its values
abbrev pub at_line : ℕ → Result Values BodyFault → (Values → Result Values Fault) → Result Values Fault
at_line at (Ok next) go = go next
at_line at (Err e) go = Err (e, at)

-- the values of the lines from number `at` on
abbrev pub rows_read : GeographyModel → ℕ → ℕ → Values → List (List ℕ) → Result Values Fault
rows_read g n at so_far [] = Ok so_far
rows_read g n at so_far (line ∷ more) =
    if length line == 0 then rows_read g n (at + 1) so_far more
    else at_line at (line_read g n so_far (fields_of (slice_split (λ b. b == 124) line))) (λ next. rows_read g n (at + 1) next more)

abbrev pub with_header : GeographyModel → ℕ → List (List ℕ) → Result Values Fault
with_header g n [] = Err (Header, 1)
with_header g n (first ∷ more) = if pointwise nat_eq first header then rows_read g n 2 [] more else Err (Header, 1)

-- what the text says: the values, or the first fault
abbrev pub body_read : GeographyModel → ℕ → List ℕ → Result Values Fault
body_read g n text = with_header g n (lines text)

-- the districts of the blocks, 0 where a block is not listed
abbrev pub whole : GeographyModel → Values → List ℕ
whole g listed = map (λ b. unwrap_or (value_at listed b.id) 0) g.blocks
