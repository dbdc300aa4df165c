-- The words of a text, and what a reader gives of them.
use Rattle.std.specs.{List.{slice_split, filter}, Prelude.{◌≡◌, ℕ, ◌+◌, ◌≤◌, ◌==◌, ◌||◌, Bool, true, false, List, [], ◌∷◌, ◌++◌, length, All}}

-- a space, a tab, a carriage return or a line feed
unfoldable pub is_separator : ℕ → Bool
is_separator b = (b == 32) || (b == 9) || (b == 13) || (b == 10)

abbrev pub has_bytes : List ℕ → Bool
has_bytes [] = false
has_bytes (b ∷ more) = true

-- the parts between separators, those without bytes left out
unfoldable pub words : List ℕ → List (List ℕ)
words text = filter has_bytes (slice_split is_separator text)

-- a word that a reader gives has at most this many bytes
abbrev pub word_limit : ℕ
word_limit = 64

abbrev pub AreSeparators : List ℕ → Type 0
AreSeparators bytes = All (λ b. is_separator b ≡ true) bytes

abbrev pub NoSeparator : List ℕ → Type 0
NoSeparator bytes = All (λ b. is_separator b ≡ false) bytes

-- the text has separators and then a part that no separator ends, which may be empty and isn't too long for a word
pub record IsBrokenWord (text : List ℕ) : Type 0 where
  pub blanks : List ℕ
  pub part : List ℕ
  pub cut : text ≡ blanks ++ part
  pub blank : AreSeparators blanks
  pub one : NoSeparator part
  pub short : length part ≤ word_limit
