-- What is heard of a command is what the desk's step did.
use Rattle.std.specs.Prelude.{◌≡◌, ℕ, ◌+◌, List, length, Some, Ok}
use Rattle.desk_model.specs.{claim.{Baf.{Values, body_read}, Desk.{Desk, Plan}, Geography.GeographyModel, Outcome.IsAcceptance, Step.step}, declared.command.Command.Command}
use Rattle.{desk_model.specs.declared.{command.Command.TheVariants.{Create, Whole, Counties, Retire, Fork}, reply.Reply.Reply}, http_desk_streams.specs.Accepting.done_by}
use Rattle.http_desk_streams.specs.declared.accepted.Accepted.{Accepted, TheVariants.{Created, Revised, Forked, Deleted}}
use Rattle.std.specs.FinMap as map_of
use Rattle.desk_model.specs.declared.reply.Reply.TheVariants as reply

-- the plan has so many revisions now, the last by a file that lists so many blocks of the geography
pub record IsRevised (d : Desk) (name body : List ℕ) (revision blocks : ℕ) (r : Reply) : Type 0 where
  pub area : GeographyModel
  pub geography : d.geography ≡ Some area
  pub plan : Plan
  pub there : map_of.get d.plans name ≡ Some plan
  pub next : revision ≡ length plan.revisions + 1
  pub told : r ≡ reply.Created name revision
  pub values : Values
  pub read : body_read area plan.n body ≡ Ok values
  pub count : blocks ≡ length values

-- such a reply tells of a command that did this
abbrev pub IsDone : Desk → Command → Accepted → Reply → Type 0
IsDone d (Create name size) (Created plan) r = (plan ≡ name) × (r ≡ reply.Created name 0)
IsDone d (Whole name after body) (Revised plan revision blocks) r = (plan ≡ name) × IsRevised d name body revision blocks r
IsDone d (Counties name after body) (Revised plan revision blocks) r = (plan ≡ name) × IsRevised d name body revision blocks r
IsDone d (Retire name) (Deleted plan) r = (plan ≡ name) × (r ≡ reply.Retired name)
IsDone d (Fork name source) (Forked plan from) r = (plan ≡ name) × (from ≡ source) × (r ≡ reply.Created name 1)
IsDone d _ _ r = ⊥

-- what is heard of a command that the desk accepts is what its step did
abbrev pub AcceptanceIsTold : Type 0
AcceptanceIsTold = (d : Desk) (c : Command) → IsAcceptance (step d c).0 → IsDone d c (done_by c) (step d c).0
