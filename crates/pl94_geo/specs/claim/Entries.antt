-- The records of the geographic header that are taken: 2020 Census PL 94-171 summary file, fields of the geographic header.
use Rattle.{std.specs.Cmp.Lexicographic.pointwise, byte_stream.specs.claim.Reading.line_limit, field_text.specs.claim.{Digits.{number_of, number_of_digits}, Fields.fields}}
use Rattle.std.specs.Prelude.{ℕ, ◌+◌, ◌-◌, ◌*◌, ◌^◌, Bool, not, ◌||◌, if◌then◌else◌, ◌==◌, nat_lt, nat_eq, List, [], length, get_or, slice_index, Option, Some, None, Result, Ok, Err, codes}
use Rattle.pl94_geo.specs.declared.entry.{GeoRecord.GeoRecord, HeaderLineFault.{HeaderLineFault, TheVariants.{Shape, RecordNumber, Codes}}}

-- field n of a line, counted from 1
abbrev pub field : ℕ → List (List ℕ) → List ℕ
field n whole = get_or whole (n - 1) []

-- SUMLEV 750 and 040 with GEOCOMP 00
abbrev pub sumlev : List (List ℕ) → List ℕ
sumlev whole = field 3 whole

abbrev pub geocomp : List (List ℕ) → List ℕ
geocomp whole = field 5 whole

-- LOGRECNO: 1 to 10 digits
abbrev pub logrecno : List (List ℕ) → Option ℕ
logrecno whole = number_of 10 (field 8 whole)

-- STATE, COUNTY, TRACT and BLOCK: 2, 3, 6 and 4 digits
abbrev pub state_code : List (List ℕ) → Option ℕ
state_code whole = number_of_digits 2 (field 13 whole)

abbrev pub county_code : List (List ℕ) → Option ℕ
county_code whole = number_of_digits 3 (field 15 whole)

abbrev pub tract_code : List (List ℕ) → Option ℕ
tract_code whole = number_of_digits 6 (field 33 whole)

abbrev pub block_code : List (List ℕ) → Option ℕ
block_code whole = number_of_digits 4 (field 35 whole)

-- 99999 is no place
abbrev pub known_place : Option ℕ → Option (Option ℕ)
known_place None = None
known_place (Some n) = if n == 99999 then Some None else Some (Some n)

-- PLACE: empty, 99999 or 5 digits, of which the first two are no place
abbrev pub place_of : List ℕ → Option (Option ℕ)
place_of text = if length text == 0 then Some None else known_place (number_of_digits 5 text)

-- PLACECC: an incorporated place begins with C
abbrev pub is_city : List ℕ → Bool
is_city text = slice_index text 0 == 67

-- the digits of the four codes, one after the other
abbrev pub block_number : ℕ → ℕ → ℕ → ℕ → ℕ
block_number state county tract block = state * 10 ^ 13 + county * 10 ^ 10 + tract * 10 ^ 4 + block

-- a block by its record number, state, county, PLACE, whether that is a city, tract and block
abbrev pub block_entry : Option ℕ → Option ℕ → Option ℕ → Option (Option ℕ) → Bool → Option ℕ → Option ℕ → Result GeoRecord HeaderLineFault
block_entry None s c p i t b = Err RecordNumber
block_entry (Some n) None c p i t b = Err Codes
block_entry (Some n) (Some s) None p i t b = Err Codes
block_entry (Some n) (Some s) (Some c) None i t b = Err Codes
block_entry (Some n) (Some s) (Some c) (Some p) i None b = Err Codes
block_entry (Some n) (Some s) (Some c) (Some p) i (Some t) None = Err Codes
block_entry (Some n) (Some s) (Some c) (Some p) i (Some t) (Some b) =
    Ok (record { block = Some (block_number s c t b); number = n; state = s; city = if i then p else None })

abbrev pub block_read : List (List ℕ) → Result GeoRecord HeaderLineFault
block_read whole = block_entry (logrecno whole) (state_code whole) (county_code whole)
    (place_of (field 30 whole)) (is_city (field 31 whole)) (tract_code whole) (block_code whole)

abbrev pub state_entry : Option ℕ → Option ℕ → Result GeoRecord HeaderLineFault
state_entry None s = Err RecordNumber
state_entry (Some n) None = Err Codes
state_entry (Some n) (Some s) = Ok (record { block = None; number = n; state = s; city = None })

abbrev pub state_record_read : List (List ℕ) → Result GeoRecord HeaderLineFault
state_record_read whole = state_entry (logrecno whole) (state_code whole)

abbrev pub taken : Result GeoRecord HeaderLineFault → Result (Option GeoRecord) HeaderLineFault
taken (Ok e) = Ok (Some e)
taken (Err f) = Err f

abbrev pub fields_read : List (List ℕ) → Result (Option GeoRecord) HeaderLineFault
fields_read whole =
    if not (pointwise nat_eq (geocomp whole) (codes "00")) then Ok None
    else if pointwise nat_eq (sumlev whole) (codes "750") then taken (block_read whole)
    else if pointwise nat_eq (sumlev whole) (codes "040") then taken (state_record_read whole)
    else Ok None

-- what a line says by itself: nothing where its record isn't taken
abbrev pub line_read : List ℕ → Result (Option GeoRecord) HeaderLineFault
line_read line =
    if nat_lt line_limit (length line) || not (length (fields line) == 97) then Err Shape
    else fields_read (fields line)
