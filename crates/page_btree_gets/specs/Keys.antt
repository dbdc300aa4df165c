-- What no promise rests on, beside claim/Keys.antt.
use Rattle.std.specs.Prelude.{◌<◌, ◌≤◌, ℕ, List, length}

-- a key has 1 to 72 bytes
abbrev pub IsKey : List ℕ → Type 0
IsKey key = (0 < length key) × (length key ≤ 72)
