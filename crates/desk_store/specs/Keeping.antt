-- What no promise rests on, beside claim/Keeping.antt.
use Rattle.{std.specs.Prelude.Some, desk_model.specs.claim.{Desk.Desk, Geography.GeographyModel}}
use Rattle.std.specs.FinMap as map_of

-- the desk with a geography and no plan
abbrev pub sealed_desk : GeographyModel → Desk
sealed_desk g = record { geography = Some g; plans = map_of.empty }
