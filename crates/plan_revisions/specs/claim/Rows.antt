-- The counties and the numbers that a command asks for.
use Rattle.{std.specs.Prelude.{ℕ, List, [], length, Option, Some, None, unwrap_or}, desk_model.specs.claim.{Desk.{Plan, Desk}, Geography.GeographyModel, Step.step}}
use Rattle.desk_model.specs.{claim.Room.{changed, last_revision}, declared.command.Command.{Command, TheVariants.{Create, Whole, Counties, Retire, Fork}}}
use Rattle.{desk_store_rows.specs.declared.value.Counters.Counters, plan_revisions.specs.claim.PlanRows.{HasPlanNumber, HasChunkNumbers}}
use Rattle.std.specs.FinMap as map_of

-- the chunks that a revision adds
abbrev pub added_chunks : Option GeographyModel → Option Plan → Option Plan → ℕ
added_chunks (Some g) (Some old) (Some new) = length (changed g (last_revision old) (unwrap_or (last_revision new) []))
added_chunks (Some g) (Some old) None = 0
added_chunks (Some g) None new = 0
added_chunks None old new = 0

abbrev pub added_by : Desk → List ℕ → Desk → ℕ
added_by d name e = added_chunks d.geography (map_of.get d.plans name) (map_of.get e.plans name)

-- so many numbers are left as a command asks for
abbrev pub HasNumbers : Desk → Command → Counters → Type 0
HasNumbers d (Create name size) = HasPlanNumber
HasNumbers d (Whole name after body) = HasChunkNumbers (added_by d name (step d (Whole name after body)).1)
HasNumbers d (Counties name after body) = HasChunkNumbers (added_by d name (step d (Counties name after body)).1)
HasNumbers d (Retire name) = λ next. Unit {0}
HasNumbers d (Fork name from) = HasPlanNumber
