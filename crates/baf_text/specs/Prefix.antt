-- The first line of a text, as a row.
use Rattle.{std.specs.{Char.is_ascii_digit, List.list_all, Str.{Lines.{lines, strip_carriage_return}, Parse.digits_value}}, desk_model.specs.claim.Baf.{code_value, fields_of}}
use Rattle.std.specs.Prelude.{◌≡◌, ◌<◌, ◌*◌, ℕ, true, false, All, List, ◌∷◌, ◌++◌, length, take, get_or, Option, Some, None, if◌then◌else◌, ◌==◌}
use Rattle.field_text.specs.claim.{Digits.number_of_digits, Fields.fields}

-- a text begins with a block's number and a bar
pub record HasHead (text : List ℕ) (block : ℕ) : Type 0 where
  pub long : 15 < length text
  pub bar : get_or text 15 0 ≡ 124
  pub digits : number_of_digits 15 (take 15 text) ≡ Some block

-- thirteen digits, and the least number of fifteen that begins with them
pub record HasHundreds (digits : List ℕ) (hundreds : ℕ) : Type 0 where
  pub long : length digits ≡ 13
  pub are : list_all is_ascii_digit digits ≡ true
  pub value : digits_value 10 digits * 100 ≡ hundreds

-- a text begins with a code, which writes that number, if any, and the end of its line
pub record HasCode (text : List ℕ) (number : Option ℕ) (rest : List ℕ) : Type 0 where
  pub code : List ℕ
  pub cut : text ≡ code ++ 10 ∷ rest
  pub one : All (λ b. (b == 10) ≡ false) code
  pub says : code_value (strip_carriage_return code) ≡ Some number

-- what a line without its end says: nothing where it has no bytes; else a block and the number that its code writes, if it has that shape
abbrev pub line_parts : List ℕ → Option (Option (ℕ × Option ℕ))
line_parts line = if length line == 0 then None else Some (fields_of (fields line))

-- what the first line says, and the text after it
pub record HasFirst (text : List ℕ) (said : Option (Option (ℕ × Option ℕ))) (rest : List ℕ) : Type 0 where
  pub line : List ℕ
  pub cut : lines text ≡ line ∷ lines rest
  pub says : said ≡ line_parts line
  pub shorter : length rest < length text
