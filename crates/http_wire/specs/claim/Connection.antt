-- What the words of a list in a field say.
use Rattle.std.specs.{List.{list_any, slice_split}, Prelude.{ℕ, Bool, false, ◌||◌, ◌&&◌, ◌==◌, List, [], ◌∷◌, codes}}
use Rattle.{http_wire.specs.claim.Target.is_word, httparse.specs.Grammar.trim_ows}

-- the word stands between two commas, without the spaces and tabs round it (RFC 9110, section 5.6.1)
abbrev pub is_element : List ℕ → List ℕ → Bool
is_element word part = is_word word (trim_ows part)

abbrev pub parts : List ℕ → List (List ℕ)
parts value = slice_split (λ b. b == 44) value

-- the last of the parts is the word
abbrev pub ends_in : List ℕ → List (List ℕ) → Bool
ends_in word [] = false
ends_in word (part ∷ []) = is_element word part
ends_in word (part ∷ next ∷ more) = ends_in word (next ∷ more)

-- a list names the word `close` (RFC 9112, section 9.6)
abbrev pub names_close : List ℕ → Bool
names_close value = list_any (is_element (codes "close")) (parts value)

abbrev pub is_closing : List ℕ × List ℕ → Bool
is_closing field = is_word (codes "connection") field.0 && names_close field.1

-- the connection closes after the answer: always in HTTP/1.0, and where a Connection line asks for it
abbrev pub asks_to_close : ℕ → List (List ℕ × List ℕ) → Bool
asks_to_close minor fields = minor == 0 || list_any is_closing fields
