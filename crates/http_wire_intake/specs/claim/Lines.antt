-- The lines that have come, up to the first empty one: a line ends in LF, with or without a CR before it.
use Rattle.std.specs.Prelude.{◌≢◌, ℕ, ◌+◌, Bool, false, List, [], ◌∷◌, ◌||◌, ◌&&◌, ◌==◌, if◌then◌else◌}

-- a byte that ends no line
abbrev pub IsWithinLine : ℕ → Type 0
IsWithinLine b = b ≢ 10

-- CR or LF
abbrev pub is_newline : ℕ → Bool
is_newline b = b == 13 || b == 10

abbrev pub begins_with_feed : List ℕ → Bool
begins_with_feed [] = false
begins_with_feed (b ∷ bytes) = b == 10

-- the line that begins here is empty
abbrev pub begins_empty : List ℕ → Bool
begins_empty [] = false
begins_empty (b ∷ bytes) = b == 10 || (b == 13 && begins_with_feed bytes)

-- how many lines end, up to the first empty one, where one has begun
abbrev pub lines_end : List ℕ → ℕ
lines_end [] = 0
lines_end (b ∷ bytes) = if b == 10 then (1 + (if begins_empty bytes then 0 else lines_end bytes)) else lines_end bytes

-- the same where none has begun: the lines of trailers
abbrev pub section_lines : List ℕ → ℕ
section_lines bytes = if begins_empty bytes then 0 else lines_end bytes

-- the lines of a head: the empty ones before the request line do not count (RFC 9112, section 2.2)
abbrev pub head_lines : List ℕ → ℕ
head_lines [] = 0
head_lines (b ∷ bytes) = if is_newline b then head_lines bytes else lines_end bytes
