-- The clauses of the sentence, of one life of a desk, in the words of its model, of the law, and of what is read and written.
use Rattle.std.specs.{Prelude.{◌≡◌, ◌≢◌, ◌⊎◌, ◌<◌, ⊤, ℕ, Bool, true, false, if◌then◌else◌, All, List, [], ◌∷◌, ◌++◌, fold, length, map}, declared.alloc.Global.Global}
use Rattle.{std.specs.declared.sync.Arc.Arc, audit_report.specs.claim.{Clauses.{IsNamed, AreExactlyClauses}, Figures.Figures, ReportText.report_text}}
use Rattle.desk_model.specs.{claim.{Desk.Desk, Geography.GeographyModel, Step.{step, reports, answer}, Subject.AuditSubject}, declared.command.{Command.Command, Query.Query}}
use Rattle.{desk_model.specs.declared.reply.{Refusal.TheVariants.Memory, Reply.{Reply, TheVariants.{Audited, Refused}}}, desk_theorem_lives.specs.declared.desk_lives.Answer.Answer}
use Rattle.desk_theorem_lives.specs.{claim.{Calls.{asked_in, told_in, is_done}, DeskLives.{Lived, after_load}}, declared.desk_lives.Request.Request}
use Rattle.desk_theorem_lives.specs.declared.desk_lives.{Answer.TheVariants.{Said, Loaded, Unloaded, Swept, Unswept}, Request.TheVariants.{Change, Look, Load, Sweep}}
use Rattle.http_desk.specs.seats.claim.Streams.{Worker}
use Rattle.desk_store_pages.specs.declared.error.StoreError.TheVariants as store
use mathlib.Core.List.{IsPrefix}

-- ==== What the words of the sentence mean
-- A request that is done makes this desk.
abbrev pub made : Desk → Request → Desk
made d (Change c) = (step d c).1
made d (Look q) = d
made d (Load g) = after_load d.geography d g.value
made d Sweep = d

-- an answer that acknowledges a change, or a load
abbrev pub tells_done : Answer → Bool
tells_done (Said r) = is_done r
tells_done Loaded = true
tells_done (Unloaded why) = false
tells_done (Swept count) = false
tells_done (Unswept why) = false

-- the request was to change the desk, and its answer acknowledges that
abbrev pub acknowledges : Request → Answer → Bool
acknowledges (Change c) a = tells_done a
acknowledges (Look q) a = false
acknowledges (Load g) a = tells_done a
acknowledges Sweep a = false

-- the requests that were acknowledged
abbrev pub acknowledged_in : List Request → List Answer → List Request
acknowledged_in [] told = []
acknowledged_in (q ∷ asked) [] = []
acknowledged_in (q ∷ asked) (a ∷ told) = (if acknowledges q a then q ∷ [] else []) ++ acknowledged_in asked told

-- The device failed in a request that was not acknowledged, nor was any after it; and what is left is the desk after those that were, and
-- this one.
pub record HoldsInFlight (t u : ℕ) (d : Desk) (asked : List Request) (told : List Answer) (e : Desk) : Type 0 where
  pub failed : t < u
  pub before : List Request
  pub told_before : List Answer
  pub q : Request
  pub a : Answer
  pub later : List Request
  pub told_later : List Answer
  pub asked_are : asked ≡ before ++ q ∷ later
  pub told_are : told ≡ told_before ++ a ∷ told_later
  pub many : length told_before ≡ length before
  pub unacknowledged : acknowledges q a ≡ false
  pub none_later : acknowledged_in later told_later ≡ []
  pub left : e ≡ made (fold made d (acknowledged_in before told_before)) q

-- What is left is the desk after each acknowledged request; or, where the device failed in that life, after the request more in which it
-- failed.
abbrev pub HoldsAcknowledged : (t u : ℕ) → Desk → List Request → List Answer → Desk → Type 0
HoldsAcknowledged t u d asked told e = (e ≡ fold made d (acknowledged_in asked told)) ⊎ HoldsInFlight t u d asked told e

-- The first requests with their answers are the others and some to each of which memory was refused.
pub data Without : (asked : List Request) → (told : List Answer) → (fewer : List Request) → (fewer_told : List Answer) → Type 0 where
  over : Without [] [] [] []
  kept : (q : Request) (a : Answer) (asked : List Request) (told : List Answer) (fewer : List Request) (fewer_told : List Answer)
      → Without asked told fewer fewer_told → Without (q ∷ asked) (a ∷ told) (q ∷ fewer) (a ∷ fewer_told)
  change : (c : Command) (asked : List Request) (told : List Answer) (fewer : List Request) (fewer_told : List Answer)
      → Without asked told fewer fewer_told → Without (Change c ∷ asked) (Said (Refused Memory) ∷ told) fewer fewer_told
  look : (q : Query) (asked : List Request) (told : List Answer) (fewer : List Request) (fewer_told : List Answer)
      → Without asked told fewer fewer_told → Without (Look q ∷ asked) (Said (Refused Memory) ∷ told) fewer fewer_told
  load : (g : Arc GeographyModel Global) (asked : List Request) (told : List Answer) (fewer : List Request) (fewer_told : List Answer)
      → Without asked told fewer fewer_told → Without (Load g ∷ asked) (Unloaded store.Memory ∷ told) fewer fewer_told
  tend : (asked : List Request) (told : List Answer) (fewer : List Request) (fewer_told : List Answer)
      → Without asked told fewer fewer_told → Without (Sweep ∷ asked) (Unswept store.Memory ∷ told) fewer fewer_told

-- An audit that a query asks for names exactly the clauses that its subject breaks, where memory isn't refused.
abbrev pub NamesExactly : Desk → Query → Reply → Type 0
NamesExactly d q r = (g : GeographyModel) (subject : AuditSubject) → answer d q ≡ reports g subject → r ≢ Refused Memory
    → (figures : Figures) × (r ≡ Audited (report_text figures))
    × AreExactlyClauses (IsNamed g subject.kind subject.n subject.districts subject.beside.senate) figures.broken

abbrev pub AuditIn : Desk → Request → Answer → Type 0
AuditIn d (Change c) a = ⊤
AuditIn d (Look q) a = (r : Reply) → a ≡ Said r → NamesExactly d q r
AuditIn d (Load g) a = ⊤
AuditIn d Sweep a = ⊤

-- so does each of a life's answers, by the desk after the requests that were acknowledged before it
abbrev pub AuditsNameExactly : Desk → List Request → List Answer → Type 0
AuditsNameExactly d [] told = ⊤
AuditsNameExactly d (q ∷ asked) [] = ⊤
AuditsNameExactly d (q ∷ asked) (a ∷ told) = AuditIn d q a × AuditsNameExactly (if acknowledges q a then made d q else d) asked told

-- What came in a life: its requests, with their answers, and the workers of its office, each with what its visitor was shown.
pub record Account : Type 0 where
  pub asked : List Request
  pub told : List Answer
  pub readers : List Worker

abbrev pub nothing : Account
nothing = record { asked = []; told = []; readers = [] }

abbrev pub of_requests : List Request → List Answer → Account
of_requests asked told = record { asked = asked; told = told; readers = [] }

abbrev pub of_exchanges : List (Request × Answer) → Account
of_exchanges all = record { asked = map (λ (x : Request × Answer). x.0) all; told = map (λ (x : Request × Answer). x.1) all; readers = [] }

abbrev pub of_calls : List (Command × Reply) → List Worker → Account
of_calls calls workers = record { asked = asked_in calls; told = told_in calls; readers = workers }

-- what a reader was shown are the first of the acknowledged requests, and all of these are commands as far as that goes
abbrev pub ShowsAcknowledged : Account → Worker → Type 0
ShowsAcknowledged life w = IsPrefix (map (λ (c : Command). Change c) w.guest.heard) (acknowledged_in life.asked life.told)

-- ==== The clauses of the sentence, of one life: from the desk d on, and what its stop leaves is the desk e. The device had failed t times
-- before, and u times after it.
pub record Clauses (t u : ℕ) (d : Desk) (life : Account) (e : Desk) : Type 0 where
  -- 'For every list of requests, .. the responses are those of a map from plan names to lists of assignments'
  pub responses : Lived t u d life.asked life.told e
  -- 'after a prefix of the commands that holds every acknowledged one'
  pub prefix : HoldsAcknowledged t u d life.asked life.told e
  -- 'an audit names exactly the clauses that the addressed revision breaks'
  pub audits : AuditsNameExactly d life.asked life.told
  -- 'nothing that a concurrent reader was shown is lost': it is the first of what was acknowledged, and by `prefix` that is left
  pub readers : All (λ w. ShowsAcknowledged life w) life.readers
  -- 'and a request refused for memory changes nothing': those that are left without it are answered the same, and leave the same
  pub memory : (fewer : List Request) (fewer_told : List Answer) → Without life.asked life.told fewer fewer_told → Lived t u d fewer fewer_told e
