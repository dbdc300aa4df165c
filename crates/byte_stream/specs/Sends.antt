-- What no promise rests on, beside claim/Sends.antt.
use Rattle.std.specs.{Io.KnownBytes.Appends, Prelude.{◌≡◌, ℕ, Bool, true, false, List, ◌++◌, Option}}

-- the same, told by a test
abbrev pub Sent : Option (List ℕ) → Option (List ℕ) → Bool → List ℕ → Type 0
Sent old new true bytes = Appends old new bytes
Sent old new false bytes = (prefix : List ℕ) × (rest : List ℕ) × (bytes ≡ prefix ++ rest) × Appends old new prefix
