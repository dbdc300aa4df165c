-- What no promise rests on, beside claim/Prefix.antt.
use Rattle.std.specs.Prelude.{◌≡◌, ℕ, ◌⊎◌, Bool, false, List}
use Rattle.{http_wire.specs.claim.Prefix.{RefusesBytes, RefusesHead}, http_wire_intake.specs.declared.bad_request.BadRequest.BadRequest}

-- no head that may stand is at the start, and this is the fault
abbrev pub RefusesPrefix : List ℕ → BadRequest → Bool → Type 0
RefusesPrefix input f head_only = (RefusesBytes input f × (head_only ≡ false)) ⊎ RefusesHead input f head_only
