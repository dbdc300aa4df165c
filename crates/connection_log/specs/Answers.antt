-- How many answers begin in a text, by their status lines (RFC 9112, section 4).
use Rattle.std.specs.{List.starts_with, Prelude.{ℕ, ◌+◌, nat_eq, nat_le, List, [], ◌∷◌, get_or, codes, if◌then◌else◌}}
use Rattle.connection_log.specs.declared.answers.Answers.{Answers}

-- the first digit of the status whose line a text begins with, or 0 where it begins with none
abbrev pub class_of : List ℕ → ℕ
class_of text = if starts_with nat_eq text (codes "HTTP/1.1 ") then get_or text 9 0 else 0

-- 1 where that digit is this one or above
abbrev pub one_from : (digit class : ℕ) → ℕ
one_from digit class = if nat_le digit class then 1 else 0

-- at how many places of a text a status line begins whose first digit is this one or above
abbrev pub count_from : (digit : ℕ) → List ℕ → ℕ
count_from digit [] = 0
count_from digit (b ∷ bs) = one_from digit (class_of (b ∷ bs)) + count_from digit bs

-- from the digit 2 on they are answers, from 4 on refusals
abbrev pub answers_in : List ℕ → Answers
answers_in text = record { all = count_from 50 text; refusals = count_from 52 text }
