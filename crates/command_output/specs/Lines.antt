-- Which words are those of a line.
use Rattle.std.specs.{Borrow.Bor, Prelude.{ℕ, ◌&&◌, ◌||◌, ◌==◌, if◌then◌else◌, List, [], ◌∷◌, codes, take, drop, length, Option, Some, None}, Str.bytes_eq}
use Rattle.command_output.specs.{Tables.{Words, words_at, case_at, place_at, reason_at}, declared.explanation.FaultPlace.{FaultPlace, TheVariants.{EveryFile, Command}}}
use Rattle.command_output.specs.declared.explanation.Reason.{Reason}

-- what a text has after its beginning, where that is this one
abbrev pub rest_after : List ℕ → List ℕ → Option (List ℕ)
rest_after start text = if bytes_eq (take (length start) text) start then Some (drop (length start) text) else None

-- the text before the first of two bytes, or all of it
abbrev pub word_to : (first second : ℕ) → List ℕ → List ℕ
word_to first second [] = []
word_to first second (b ∷ bs) = if b == first || b == second then [] else b ∷ word_to first second bs

-- the first words of a table for a code in a case
abbrev pub row_for : List ℕ → List ℕ → List Words → Option Words
row_for code case [] = None
row_for code case (w ∷ ws) = if bytes_eq w.code code && bytes_eq w.case case then Some w else row_for code case ws

abbrev pub or_else : Option Words → Option Words → Option Words
or_else None other = other
or_else (Some w) other = Some w

-- the words of a place for a code: those for the reason, or those for any
abbrev pub place_words : FaultPlace → List ℕ → Option Reason → Option Words
place_words place code reason = or_else (row_for code (case_at reason) (words_at place)) (row_for code (codes "") (words_at place))

-- the words of a place for the code that stands after a colon, before a blank or the line's end, or those of any file
abbrev pub code_words : FaultPlace → Option Reason → Option (List ℕ) → Option Words
code_words place reason None = None
code_words place reason (Some text) = or_else (place_words place (word_to 32 10 text) reason) (place_words EveryFile (word_to 32 10 text) None)

abbrev pub rest_words : FaultPlace → Option Reason → Option (List ℕ) → Option Words
rest_words place reason None = None
rest_words place reason (Some text) = code_words place reason (rest_after (codes ": ") text)

-- where the word is a file's role or a command, what stands after it has the code; else the word itself is one, of a command
abbrev pub role_words : Option FaultPlace → (role rest : List ℕ) → Option Reason → Option Words
role_words None role rest reason = place_words Command role None
role_words (Some place) role rest reason = rest_words place (reason_at role reason) (rest_after role rest)

abbrev pub name_words : Option Reason → Option (List ℕ) → Option Words
name_words reason None = None
name_words reason (Some rest) = role_words (place_at (word_to 58 10 rest)) (word_to 58 10 rest) rest reason

-- the words for a fault's line, as `plandesk: geo: G1 line 2`, and none for a line without a code of its place
unfoldable pub line_words : List ℕ → Option Reason → Option Words
line_words line reason = name_words reason (rest_after (codes "plandesk: ") line)

-- the path of a file among those of several roles
abbrev pub path_among : List ℕ → List (List ℕ × List ℕ) → Option (List ℕ)
path_among role [] = None
path_among role (f ∷ fs) = if bytes_eq f.0 role then Some f.1 else path_among role fs

abbrev pub rest_path : List (List ℕ × List ℕ) → Option (List ℕ) → Option (List ℕ)
rest_path files None = None
rest_path files (Some rest) = path_among (word_to 58 10 rest) files

-- the path of the file whose fault a line tells
unfoldable pub line_path : List ℕ → List (List ℕ × List ℕ) → Option (List ℕ)
line_path line files = rest_path files (rest_after (codes "plandesk: ") line)

-- a role and a path, as the code has them
abbrev pub named : Bor (List ℕ) × Bor (List ℕ) → List ℕ × List ℕ
named file = (file.0.now, file.1.now)
