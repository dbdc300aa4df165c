-- Entries, each a key and a value, and their bytes.
use Rattle.std.specs.{Int.{w32, to_be_bytes}, Prelude.{◌≤◌, ◌+◌, ◌/◌, ◌%◌, ℕ, List, [], ◌∷◌, ◌++◌, length}}

abbrev pub Entry : Type 0
Entry = List ℕ × List ℕ

-- the length of a key in one byte, that of a value in two, then both
abbrev pub entry_bytes : Entry → List ℕ
entry_bytes e = length e.0 ∷ length e.1 / 256 ∷ length e.1 % 256 ∷ (e.0 ++ e.1)

abbrev pub entry_size : Entry → ℕ
entry_size e = 3 + length e.0 + length e.1

-- entries, one after the other
abbrev pub body_of : List Entry → List ℕ
body_of [] = []
body_of (e ∷ es) = entry_bytes e ++ body_of es

abbrev pub size_of : List Entry → ℕ
size_of [] = 0
size_of (e ∷ es) = entry_size e + size_of es

-- a key has at most 72 bytes, a value at most 1,024
abbrev pub IsEntry : Entry → Type 0
IsEntry e = (length e.0 ≤ 72) × (length e.1 ≤ 1024)

-- the value of an inner entry is the number of a page
abbrev pub child_bytes : ℕ → List ℕ
child_bytes page = to_be_bytes w32 page
