-- A text, line by line.
use Rattle.std.specs.{Prelude.{◌≡◌, ◌<◌, ℕ, List, ◌∷◌, length}, Str.Lines.lines}
use Rattle.http_desk_streams.specs.Accepting.{one_row}

-- the first line of a text counts so much, and this is the text after it
pub record BeginsWith (text : List ℕ) (count : ℕ) (rest : List ℕ) : Type 0 where
  pub line : List ℕ
  pub cut : lines text ≡ line ∷ lines rest
  pub counts : count ≡ one_row line
  pub shorter : length rest < length text
