-- Which code a text has.
use Rattle.std.specs.{Char.is_ascii_alphanumeric, Prelude.{ℕ, Bool, false, not, ◌&&◌, ◌||◌, ◌==◌, if◌then◌else◌, List, [], ◌∷◌, Option, Some, None}, Str.str_eq_ignore_ascii_case}
use Rattle.command_output.specs.{Tables.{Words, places, words_at}, declared.explanation.FaultPlace.FaultPlace}

-- the code of a place's rows that a word is, in any case, as the table has it
abbrev pub code_among : List ℕ → List Words → Option (List ℕ)
code_among word [] = None
code_among word (w ∷ ws) = if str_eq_ignore_ascii_case w.code word then Some w.code else code_among word ws

abbrev pub or_code : Option (List ℕ) → Option (List ℕ) → Option (List ℕ)
or_code None other = other
or_code (Some code) other = Some code

-- the same of all places
abbrev pub code_at : List ℕ → List FaultPlace → Option (List ℕ)
code_at word [] = None
code_at word (p ∷ ps) = or_code (code_among word (words_at p)) (code_at word ps)

unfoldable pub code_of_word : List ℕ → Option (List ℕ)
code_of_word word = code_at word places

-- the letters and digits at a text's start
abbrev pub prefix_word : List ℕ → List ℕ
prefix_word [] = []
prefix_word (b ∷ bs) = if is_ascii_alphanumeric b then b ∷ prefix_word bs else []

abbrev pub begins_word : List ℕ → Bool
begins_word [] = false
begins_word (b ∷ bs) = is_ascii_alphanumeric b

-- the letters and digits at a text's start, and the dots (46) between them
abbrev pub dotted_word : List ℕ → List ℕ
dotted_word [] = []
dotted_word (b ∷ bs) = if is_ascii_alphanumeric b || ((b == 46) && begins_word bs) then b ∷ dotted_word bs else []

-- the code that a text begins with: its word with the dots, or without them
unfoldable pub code_at_front : List ℕ → Option (List ℕ)
code_at_front text = or_code (code_of_word (dotted_word text)) (code_of_word (prefix_word text))

-- the code of the first word that is one, where a word begins at a letter or digit after what is none
abbrev pub code_from : (in_word : Bool) → List ℕ → Option (List ℕ)
code_from in_word [] = None
code_from in_word (b ∷ bs) =
    if is_ascii_alphanumeric b && not in_word then or_code (code_at_front (b ∷ bs)) (code_from (is_ascii_alphanumeric b) bs)
    else code_from (is_ascii_alphanumeric b) bs

-- the code that a text has: that of its first word of letters, digits and dots which is one in any case
unfoldable pub code_in : List ℕ → Option (List ℕ)
code_in text = code_from false text
