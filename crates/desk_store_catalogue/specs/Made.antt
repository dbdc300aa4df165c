-- Reports that were made, and what they are of.
use Rattle.std.specs.{Borrow.Bor, Prelude.{◌≡◌, ℕ, ◌≤◌, List, Option, Some, Ok, IsSome, IfSome, IsTrue}}
use Rattle.desk_model.specs.{Companions.{AreTaken, companions_copied}, claim.{Companions.takes, Desk.Desk, Geography.GeographyModel}, declared.command.Query.Query}
use Rattle.desk_model.specs.{claim.Subject.{AuditSubject, companion_of, companions_of, subject_of}, declared.{companions.Companions.Companions, kind.Kind.Kind, reply.Reply.Reply}}
use Rattle.desk_store_catalogue.specs.{Kept.IsWhole, claim.Audits.{IsReportText, AskMay}}
use Rattle.std.specs.FinMap as map_of

-- the answer, where the last report that was made is kept, and what is kept then is of the desk's geography too
pub record AsksAgain (d : Desk) (query : Query) (reply : Reply) (kept : Option GeographyModel) : Type 0 where
  pub answer : AskMay d query reply
  pub last : IfSome kept (λ g. d.geography ≡ Some g)

-- the text is that of the report on these districts beside those of the companions
abbrev pub IsMadeOf : GeographyModel → Kind → ℕ → List ℕ → Option (List ℕ) → Option (List ℕ) → List ℕ → Type 0
IsMadeOf g kind n districts senate congress =
    IsReportText g (record { kind = kind; n = n; districts = districts; beside = record { senate = senate; congress = congress } })

-- what an audit judges, where the lists lie elsewhere
abbrev pub subject_seen : Kind → ℕ → List ℕ → Companions (Bor (List ℕ)) → AuditSubject
subject_seen kind n districts beside = record { kind = kind; n = n; districts = districts; beside = companions_copied beside }

-- the revision that is asked for beside a plan of the kind, or none
pub record IsCompanion (d : Desk) (beside kind : Kind) (asked : Option (List ℕ × ℕ)) (found : Option (List ℕ)) : Type 0 where
  pub is : companion_of d beside kind asked ≡ Ok found
  pub whole : IsWhole d.geography found
  pub taken : IsSome found → IsTrue (takes beside kind)

-- both
pub record AreCompanions (d : Desk) (kind : Kind) (asked : Companions (List ℕ × ℕ)) (found : Companions (List ℕ)) : Type 0 where
  pub are : companions_of d kind asked ≡ Ok found
  pub senate : IsWhole d.geography found.senate
  pub congress : IsWhole d.geography found.congress
  pub taken : AreTaken kind found

-- what an audit judges
pub record IsSubject (d : Desk) (name : List ℕ) (k : ℕ) (asked : Companions (List ℕ × ℕ)) (s : AuditSubject) : Type 0 where
  pub is : subject_of d (map_of.get d.plans name) k asked ≡ Ok s
  pub few : (1 ≤ s.n) × (s.n ≤ 999)
  pub whole : IsWhole d.geography (Some s.districts)
  pub beside : AreCompanions d s.kind asked s.beside
