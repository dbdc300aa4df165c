-- How much of a request is taken.
use Rattle.std.specs.Prelude.{ℕ, List, take}

-- a head is looked for in this many bytes
abbrev pub head_limit : ℕ
head_limit = 16384

-- so many header lines at most
abbrev pub field_limit : ℕ
field_limit = 64

-- so many bytes of a body at most
abbrev pub body_limit : ℕ
body_limit = 33554432

-- the bytes in which a head is looked for
abbrev pub window : List ℕ → List ℕ
window input = take head_limit input
