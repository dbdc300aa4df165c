-- Districts in pieces.
use Rattle.std.specs.{List.flat_map, Prelude.{◌≡◌, ◌+◌, ◌*◌, ◌<◌, ◌^◌, ℕ, List, Some, ◌++◌, length, get_or, map, All}}
use Rattle.desk_store_lists.specs.Laid.{laid}

-- the districts of blocks that stand one after the other
abbrev pub Piece : Type 0
Piece = List ℕ

-- the pieces put one after the other
abbrev pub joined : List Piece → List ℕ
joined = flat_map (λ p. p)

-- each of them is full
abbrev pub AreFull : List Piece → Type 0
AreFull = All (λ p. length p ≡ 512)

-- full pieces and one after them, with so many districts, each of two bytes
pub record IsCut (full : List Piece) (rest : Piece) (count : ℕ) : Type 0 where
  pub are_full : AreFull full
  pub counted : count ≡ length (joined full) + length rest
  pub fit : (i : ℕ) → get_or (joined full ++ rest) i 0 < 2 ^ 16

-- full pieces with a part in the place of their own, from a place on
pub record ArePut (first : ℕ) (part : List ℕ) (old new : List Piece) : Type 0 where
  pub long : length new ≡ length old
  pub each : (place : ℕ) (d : Piece) → place < length old
      → get_or new place d ≡ laid first (map Some part) (place * 512) (get_or old place d)
