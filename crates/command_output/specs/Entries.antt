-- What is known of a code wherever it is told.
use Rattle.std.specs.{Prelude.{ℕ, if◌then◌else◌, List, [], ◌∷◌, ◌++◌, Option, Some, None}, Str.bytes_eq}
use Rattle.command_output.specs.{Sentences.entry_of, Tables.{Words, places, words_at, place_name}, declared.explanation.FaultPlace.FaultPlace}

-- the entries of a code among a place's rows, one after the other
abbrev pub entries_among : List ℕ → List ℕ → List Words → List ℕ
entries_among code place [] = []
entries_among code place (w ∷ ws) = (if bytes_eq w.code code then entry_of place w else []) ++ entries_among code place ws

-- the same of all places
abbrev pub entries_in : List ℕ → List FaultPlace → List ℕ
entries_in code [] = []
entries_in code (p ∷ ps) = entries_among code (place_name p) (words_at p) ++ entries_in code ps

unfoldable pub entries_for : List ℕ → List ℕ
entries_for code = entries_in code places

-- the entries of all codes among a place's rows
abbrev pub all_among : List ℕ → List Words → List ℕ
all_among place [] = []
all_among place (w ∷ ws) = entry_of place w ++ all_among place ws

-- the same of all places
abbrev pub all_in : List FaultPlace → List ℕ
all_in [] = []
all_in (p ∷ ps) = all_among (place_name p) (words_at p) ++ all_in ps

unfoldable pub all_entries : List ℕ
all_entries = all_in places

-- the entries of a code, or where none is asked for, of all
abbrev pub entries_asked : Option (List ℕ) → List ℕ
entries_asked None = all_entries
entries_asked (Some code) = entries_for code
