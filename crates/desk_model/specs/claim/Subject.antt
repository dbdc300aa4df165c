-- What an audit judges: a revision of a plan, alone or beside its companions.
use Rattle.std.specs.{List.slice_get, Prelude.{ℕ, ◌-◌, ◌==◌, if◌then◌else◌, List, Option, Some, None, Result, Ok, Err}}
use Rattle.desk_model.specs.{claim.{Companions.{takes, is_kind}, Desk.{Plan, Desk}}, declared.{companions.Companions.Companions, kind.Kind.{Kind, TheVariants.{Congress, Senate}}}}
use Rattle.desk_model.specs.declared.reply.Refusal.{Refusal, TheVariants.{NoPlan, NoRevision, BadCompanion}}
use Rattle.std.specs.FinMap as map_of

-- a plan's kind and number of districts, the districts of one of its revisions, and those of its companions
pub record AuditSubject : Type 0 where
  pub kind : Kind
  pub n : ℕ
  pub districts : List ℕ
  pub beside : Companions (List ℕ)

-- revision k of a plan, from 1
abbrev pub revision_at : Plan → ℕ → Option (List ℕ)
revision_at p k = if k == 0 then None else slice_get p.revisions (k - 1)

-- revision j of a plan of the kind
abbrev pub revision_of_kind : Kind → Option Plan → ℕ → Option (List ℕ)
revision_of_kind kind None j = None
revision_of_kind kind (Some p) j = if is_kind kind p.kind then revision_at p j else None

-- a companion that is asked for has to be there
abbrev pub found : Option (List ℕ) → Result (Option (List ℕ)) Refusal
found None = Err BadCompanion
found (Some districts) = Ok (Some districts)

-- the companion of a plan of the kind that is asked for by a plan's name and the number of its revision: none where none is
abbrev pub companion_of : Desk → (beside kind : Kind) → Option (List ℕ × ℕ) → Result (Option (List ℕ)) Refusal
companion_of d beside kind None = Ok None
companion_of d beside kind (Some at) = if takes beside kind then found (revision_of_kind beside (map_of.get d.plans at.0) at.1) else Err BadCompanion

abbrev pub both : Result (Option (List ℕ)) Refusal → Result (Option (List ℕ)) Refusal → Result (Companions (List ℕ)) Refusal
both (Err refusal) congress = Err refusal
both (Ok senate) (Err refusal) = Err refusal
both (Ok senate) (Ok congress) = Ok (record { senate = senate; congress = congress })

-- all companions of a plan of the kind that are asked for
abbrev pub companions_of : Desk → Kind → Companions (List ℕ × ℕ) → Result (Companions (List ℕ)) Refusal
companions_of d kind asked = both (companion_of d Senate kind asked.senate) (companion_of d Congress kind asked.congress)

abbrev pub subject_with : Plan → List ℕ → Result (Companions (List ℕ)) Refusal → Result AuditSubject Refusal
subject_with p districts (Err refusal) = Err refusal
subject_with p districts (Ok beside) = Ok (record { kind = p.kind; n = p.n; districts = districts; beside = beside })

abbrev pub subject_at : Desk → Plan → Option (List ℕ) → Companions (List ℕ × ℕ) → Result AuditSubject Refusal
subject_at d p None asked = Err NoRevision
subject_at d p (Some districts) asked = subject_with p districts (companions_of d p.kind asked)

-- what the audit of revision k of a plan judges, or why there is no audit
abbrev pub subject_of : Desk → Option Plan → ℕ → Companions (List ℕ × ℕ) → Result AuditSubject Refusal
subject_of d None k asked = Err NoPlan
subject_of d (Some p) k asked = subject_at d p (revision_at p k) asked
