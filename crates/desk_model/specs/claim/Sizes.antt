-- The kind that a word names, and how many districts its plans may have.
use Rattle.std.specs.{Prelude.{ℕ, ◌&&◌, if◌then◌else◌, nat_le, List, Option, Some, None, codes}, Str.bytes_eq}
use Rattle.desk_model.specs.declared.kind.Kind.{Kind, TheVariants.{Congress, Senate, House}}

-- the kind that a word names
abbrev pub kind_named : List ℕ → Option Kind
kind_named word =
    if bytes_eq word (codes "congress") then Some Congress
    else if bytes_eq word (codes "senate") then Some Senate
    else if bytes_eq word (codes "house") then Some House
    else None

-- a plan of the kind has so many districts at most
abbrev pub most_districts : Kind → ℕ
most_districts Congress = 99
most_districts Senate = 999
most_districts House = 999

-- a kind with a number of districts that its plans may have
abbrev pub sized : Kind → ℕ → Option (Kind × ℕ)
sized kind n = if nat_le 1 n && nat_le n (most_districts kind) then Some (kind, n) else None
