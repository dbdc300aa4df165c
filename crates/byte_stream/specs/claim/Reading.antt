-- What a reader of lines gives of the bytes that came.
use Rattle.std.specs.{Prelude.{◌≡◌, ℕ, ◌+◌, ◌≤◌, ◌==◌, false, List, ◌∷◌, ◌++◌, length, All}, Str.Lines.strip_carriage_return}

abbrev pub NoLineFeed : List ℕ → Type 0
NoLineFeed bytes = All (λ b. (b == 10) ≡ false) bytes

-- a line has at most this many bytes, its end not counted
abbrev pub line_limit : ℕ
line_limit = 65536

-- more turns are not made
abbrev pub turn_limit : ℕ
turn_limit = 4294967296

abbrev pub IsShort : List ℕ → Type 0
IsShort bytes = length (strip_carriage_return bytes) ≤ line_limit

-- the text begins with this line and its end
pub record BeginsWithLine (text line rest : List ℕ) : Type 0 where
  pub raw : List ℕ
  pub cut : text ≡ raw ++ 10 ∷ rest
  pub one : NoLineFeed raw
  pub stripped : line ≡ strip_carriage_return raw

-- the text holds no whole line and is not too long for one
pub record IsBroken (text : List ℕ) : Type 0 where
  pub one : NoLineFeed text
  pub short : IsShort text
