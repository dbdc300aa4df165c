-- What a counter may answer: the desk's own step, or that there was no room, no memory or no device.
use Rattle.std.specs.Prelude.{◌≡◌, ◌≢◌, ℕ, List, ⊤}
use Rattle.desk_model.specs.{claim.{Desk.Desk, Geography.GeographyModel, Step.{step, Answer, says, reports, answer}, Subject.AuditSubject}, declared.command.Command.Command}
use Rattle.desk_model.specs.declared.{command.Query.Query, reply.{Refusal.Refusal, Reply.Reply}}
use Rattle.desk_model.specs.declared.reply.Refusal.TheVariants.{NoPlan, NoRevision, PlanExists, Stale, BadBody, NotWholeCounty, BadCompanion, Limit, Full, Memory, Halted, NotSealed}
use Rattle.desk_model.specs.declared.reply.Reply.TheVariants as reply

-- the reply of an accepted command
abbrev pub IsAcceptance : Reply → Type 0
IsAcceptance (reply.Created name revisions) = ⊤
IsAcceptance (reply.Retired name) = ⊤
IsAcceptance _ = ⊥

-- the step's reply and its desk, and room for the change where it accepts
pub record IsStep (must : Type 0) (d : Desk) (c : Command) (r : Reply) (new : Desk) : Type 0 where
  pub reply : r ≡ (step d c).0
  pub desk : new ≡ (step d c).1
  pub room : IsAcceptance r → ¬ must

-- the step would accept, and it may be told that there is no room for it
pub record IsFull (may : Type 0) (d : Desk) (c : Command) (new : Desk) : Type 0 where
  pub accepted : IsAcceptance (step d c).0
  pub no_room : may
  pub desk : new ≡ d

-- the outcomes that are no step: by the refusal
abbrev pub RefusalMay : (must may failed : Type 0) → Desk → Command → Refusal → Desk → Type 0
RefusalMay must may failed d c Memory new = ¬ failed × (new ≡ d)
RefusalMay must may failed d c Halted new = failed × (new ≡ d)
RefusalMay must may failed d c Full new = ¬ failed × IsFull may d c new
RefusalMay must may failed d c NoPlan new = ¬ failed × IsStep must d c (reply.Refused NoPlan) new
RefusalMay must may failed d c NoRevision new = ¬ failed × IsStep must d c (reply.Refused NoRevision) new
RefusalMay must may failed d c PlanExists new = ¬ failed × IsStep must d c (reply.Refused PlanExists) new
RefusalMay must may failed d c (Stale k) new = ¬ failed × IsStep must d c (reply.Refused (Stale k)) new
RefusalMay must may failed d c (BadBody code line) new = ¬ failed × IsStep must d c (reply.Refused (BadBody code line)) new
RefusalMay must may failed d c (NotWholeCounty county) new = ¬ failed × IsStep must d c (reply.Refused (NotWholeCounty county)) new
RefusalMay must may failed d c BadCompanion new = ⊥
RefusalMay must may failed d c Limit new = ¬ failed × IsStep must d c (reply.Refused Limit) new
RefusalMay must may failed d c NotSealed new = ¬ failed × IsStep must d c (reply.Refused NotSealed) new

-- A command may have this reply, and leave this desk. must: there is less room than it needs, so it isn't accepted;
-- may: so little room that it may be refused for want of it; failed: the device failed in this call or before.
abbrev pub CommandMay : (must may failed : Type 0) → Desk → Command → Reply → Desk → Type 0
CommandMay must may failed d c (reply.Refused refusal) new = RefusalMay must may failed d c refusal new
CommandMay must may failed d c (reply.Created name revisions) new = ¬ failed × IsStep must d c (reply.Created name revisions) new
CommandMay must may failed d c (reply.Retired name) new = ¬ failed × IsStep must d c (reply.Retired name) new
CommandMay must may failed d c _ new = ⊥

-- which texts are the report on a subject: what an audit decides, in the crates above
abbrev pub Reporting : Type 1
Reporting = GeographyModel → AuditSubject → List ℕ → Type 0

-- the reply is the answer
abbrev pub IsAnswer : Reporting → Answer → Reply → Type 0
IsAnswer Reports (says told) r = r ≡ told
IsAnswer Reports (reports g subject) r = (text : List ℕ) × (r ≡ reply.Audited text) × Reports g subject text

-- a query is answered by the desk, unless memory is wanting
abbrev pub QueryMay : Reporting → Desk → Query → Reply → Type 0
QueryMay Reports d q r = (r ≢ reply.Refused Memory) → IsAnswer Reports (answer d q) r
