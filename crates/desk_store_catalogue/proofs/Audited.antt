-- What an audit judges and what it answers, by what was found.
use Rattle.std.{specs.Prelude.IfSome, proofs.Common.{rules, ◌≡◌, ℕ, List, length, Option, Some, None, Result, Ok, Err, refl, ap, sym, subst, ◌∙◌}}
use Rattle.{audit_report.specs.Audits.IsAuditable, desk_model.specs.{claim.{Desk.{Plan, Desk}, Geography.GeographyModel, Outcome.IsAnswer}, declared.kind.Kind.Kind}}
use Rattle.desk_model.specs.claim.{Step.{Answer, answer, answer_at, audit_of}, Subject.{AuditSubject, revision_at, companions_of, subject_with, subject_of}}
use Rattle.desk_model.specs.declared.{command.Query.TheVariants.Audit, companions.Companions.Companions, reply.{Refusal.Refusal, Reply.Reply}}
use Rattle.desk_store_catalogue.specs.{Kept.IsWhole, Made.IsSubject, claim.Audits.IsReportText}
use Rattle.std.specs.FinMap as map_of

module _ (d : Desk) (o : Option Plan) (p : Plan) (k : ℕ) (districts : List ℕ) (asked : Companions (List ℕ × ℕ)) (kind : Kind) (plan : o ≡ Some p) (revision : Some districts ≡ revision_at p k)
    (is_kind : kind ≡ p.kind) where
  with_found : subject_of d o k asked ≡ subject_with p districts (companions_of d kind asked)
  with_found = search rules

  pub subject_is : (n : ℕ) (beside : Companions (List ℕ)) → n ≡ p.n → companions_of d kind asked ≡ Ok beside
      → subject_of d o k asked ≡ Ok (record { kind = kind; n = n; districts = districts; beside = beside })
  subject_is n beside is_n found = with_found ∙ ap (subject_with p districts) found ∙ λ i. Ok (record { kind = sym is_kind i; n = sym is_n i; districts = districts; beside = beside })

  pub subject_refused : (refusal : Refusal) → companions_of d kind asked ≡ Err refusal → subject_of d o k asked ≡ Err refusal
  subject_refused refusal why = with_found ∙ ap (subject_with p districts) why

-- each companion that is whole
whole_long : (geography : Option GeographyModel) (g : GeographyModel) (o : Option (List ℕ)) → geography ≡ Some g → IsWhole geography o → IfSome o (λ d. length d ≡ length g.blocks)
whole_long geography g None is whole = tt
whole_long geography g (Some d) is whole = whole g d is refl

module _ (d : Desk) (g : GeographyModel) (name : List ℕ) (k : ℕ) (asked : Companions (List ℕ × ℕ)) (there : d.geography ≡ Some g) where
  pub may_be_audited : (s : AuditSubject) → IsSubject d name k asked s → IsAuditable g s.kind s.n s.districts s.beside
  may_be_audited s is = search (rules, whole_long)

  pub answered : (subject : Result AuditSubject Refusal) (reply : Reply) → subject_of d (map_of.get d.plans name) k asked ≡ subject → IsAnswer IsReportText (audit_of g subject) reply
      → IsAnswer IsReportText (answer d (Audit name k asked.senate asked.congress)) reply
  answered subject reply is told = subst (λ (a : Answer). IsAnswer IsReportText a reply)
      (sym (ap (λ (x : Option GeographyModel). answer_at x d (Audit name k asked.senate asked.congress)) there ∙ ap (audit_of g) is)) told
