-- What no promise rests on, beside claim/Accepting.antt.
use Rattle.std.specs.Prelude.{◌≡◌, ℕ, ◌<◌, List, length, Some}
use Rattle.desk_model.specs.{claim.{Desk.Desk, Outcome.RefusalMay, Step.revision_limit}, declared.{command.Command.Command, reply.Refusal.Refusal}}
use Rattle.{desk_store_catalogue.specs.Kept.HasWhole, desk_store_plans.specs.Rows.Row}
use Rattle.std.specs.FinMap as map_of

-- a catalogue knows of no room and no device: a command is refused by the desk alone, or for want of memory
abbrev pub StepRefuses : Desk → Command → Refusal → Type 0
StepRefuses d c refusal = RefusalMay ⊥ ⊥ ⊥ d c refusal d

-- the row is that of the plan under the name, which has so many revisions, each whole, and may have one more
pub record IsRevisable (d : Desk) (name : List ℕ) (after : ℕ) (row : Row) : Type 0 where
  pub named : row.0 ≡ name
  pub found : map_of.get d.plans name ≡ Some row.1
  pub last : after ≡ length row.1.revisions
  pub few : after < revision_limit
  pub kept : HasWhole d.geography row.1
