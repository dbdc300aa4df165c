-- What no promise rests on, beside claim/Connection.antt.
use Rattle.std.specs.Prelude.{◌≡◌, ℕ, ◌<◌, List, [], ◌∷◌, length, Option, Some, None}
use Rattle.http_wire.specs.claim.Connection.{parts}

-- the first part, and what follows its comma
abbrev pub IsCut : List ℕ → List ℕ → Option (List ℕ) → Type 0
IsCut value part None = parts value ≡ part ∷ []
IsCut value part (Some more) = (parts value ≡ part ∷ parts more) × (length more < length value)
