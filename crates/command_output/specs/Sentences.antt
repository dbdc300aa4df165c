-- How the words for a code are shown.
use Rattle.std.specs.Prelude.{ℕ, List, [], ◌∷◌, ◌++◌, codes, Option, Some, None}
use Rattle.command_output.specs.Tables.{Words}

-- what is meant, and what to do
abbrev pub words_of : Words → List ℕ
words_of words = words.means ++ codes " What to do: " ++ words.remedy ++ codes "\n"

-- how the line after a fault's line begins, with the path of the file where there is one
abbrev pub head_of : Option (List ℕ) → List ℕ
head_of None = codes "  It means: "
head_of (Some path) = codes "  In " ++ path ++ codes " it means: "

-- that line
abbrev pub sentence_of : Option (List ℕ) → Words → List ℕ
sentence_of path words = head_of path ++ words_of words

-- a case is told where there is one
abbrev pub case_text : List ℕ → List ℕ
case_text [] = []
case_text (c ∷ cs) = codes ", " ++ c ∷ cs

-- so is what the code carries
abbrev pub carries_text : List ℕ → List ℕ
carries_text [] = []
carries_text (c ∷ cs) = codes " " ++ c ∷ cs

-- the same after the code with what it carries, its place and its case
abbrev pub entry_of : (place : List ℕ) → Words → List ℕ
entry_of place words = words.code ++ carries_text words.carries ++ codes ", " ++ place ++ case_text words.case ++ codes ": " ++ words_of words
