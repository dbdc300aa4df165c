-- What is shown of a line that a fault names, and of an argument that isn't text.
use Rattle.std.specs.{Char.is_ascii_graphic, Prelude.{ℕ, zero, suc, ◌+◌, ◌/◌, ◌%◌, ◌==◌, ◌||◌, nat_lt, if◌then◌else◌, List, [], ◌∷◌, ◌++◌, map, take, codes}}
use Rattle.file_commands.specs.Prefixes.{shown, line_prefix}

-- what follows the first line end (10)
abbrev pub after_line : List ℕ → List ℕ
after_line [] = []
after_line (b ∷ bs) = if b == 10 then bs else after_line bs

-- what follows this number of line ends
abbrev pub after_lines : (ends : ℕ) → List ℕ → List ℕ
after_lines zero text = text
after_lines (suc n) text = after_lines n (after_line text)

-- the line that follows this number of line ends, as it is shown: at most 60 bytes, each printable one as it is
abbrev pub line_told : (number : List ℕ) → (ends : ℕ) → List ℕ → List ℕ
line_told number ends text = codes "  Line " ++ number ++ codes " is `" ++ map shown (take 60 (line_prefix (after_lines ends text))) ++ codes "`.\n"

-- a digit of base 16
abbrev pub hex_digit : ℕ → ℕ
hex_digit n = if nat_lt n 10 then 48 + n else 87 + n

-- a byte of an argument: a printable one as it is, another one as a backslash, an x and two digits
abbrev pub escaped : ℕ → List ℕ
escaped b = if is_ascii_graphic b || b == 32 then b ∷ [] else 92 ∷ 120 ∷ hex_digit (b / 16) ∷ hex_digit (b % 16) ∷ []

abbrev pub all_escaped : List ℕ → List ℕ
all_escaped [] = []
all_escaped (b ∷ bs) = escaped b ++ all_escaped bs
