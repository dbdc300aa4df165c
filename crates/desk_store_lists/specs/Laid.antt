-- Listed districts in the place of others.
use Rattle.std.specs.Prelude.{ℕ, suc, ◌+◌, ◌-◌, ◌<◌, ◌^◌, List, [], ◌∷◌, ◌++◌, length, take, drop, get_or, unwrap_or, nat_lt, Option, None, if◌then◌else◌}

-- what is listed of a place, where the list stands from the place `first` on
abbrev pub listed_at : ℕ → List (Option ℕ) → ℕ → Option ℕ
listed_at first listed place = if nat_lt place first then None else get_or listed (place - first) None

-- a list that stands from a place on, with the listed districts in the place of its own
abbrev pub laid : ℕ → List (Option ℕ) → ℕ → List ℕ → List ℕ
laid first listed place [] = []
laid first listed place (d ∷ ds) = unwrap_or (listed_at first listed place) d ∷ laid first listed (suc place) ds

-- a list with a part in the place of its own, from a place on
abbrev pub with_at : ℕ → List ℕ → List ℕ → List ℕ
with_at first part ds = take first ds ++ (part ++ drop (first + length part) ds)

-- each of the districts has two bytes
abbrev pub AreShort : List ℕ → Type 0
AreShort ds = (i : ℕ) → get_or ds i 0 < 2 ^ 16
