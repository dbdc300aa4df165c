-- What no promise rests on, beside claim/Seated.antt.
use Rattle.std.specs.Prelude.{◌≡◌, ℕ, List, Option, Some, None, IfSome}
use Rattle.{desk_model.specs.{claim.Geography.GeographyModel, declared.command.Command.Command}, http_desk_seats.specs.claim.Seated.Seated}

-- the report that was made last, if there is one, is of this geography
abbrev pub IsOf : Option GeographyModel → Option GeographyModel → Type 0
IsOf geography last = IfSome last (λ made. geography ≡ Some made)

-- who has heard of this, and was told so many commands as accepted and as halted
abbrev pub seated : List Command → ℕ → ℕ → Seated
seated heard accepted halted = record { heard = heard; accepted = accepted; halted = halted }

-- what comes back from a place, if a guest does
abbrev pub seats_at : Option Seated → ℕ
seats_at None = 0
seats_at (Some guest) = 1

abbrev pub accepted_at : Option Seated → ℕ
accepted_at None = 0
accepted_at (Some guest) = guest.accepted

abbrev pub halted_at : Option Seated → ℕ
halted_at None = 0
halted_at (Some guest) = guest.halted
