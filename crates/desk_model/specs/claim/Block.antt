-- The parts of a block's number (2020 Census PL 94-171 technical documentation, GEOCODE of a block).
use Rattle.std.specs.Prelude.{ℕ, ◌/◌, ◌%◌, ◌^◌}

-- digits 3 to 5
abbrev pub county_of : ℕ → ℕ
county_of id = (id / 10 ^ 10) % 1000

-- digits 1 and 2
abbrev pub state_of : ℕ → ℕ
state_of id = id / 10 ^ 13
