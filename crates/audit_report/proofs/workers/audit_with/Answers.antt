use Rattle.{std.proofs.{Common.{◌∙◌, sym}, lemmas.Result.IfOk-weaker}, desk_model.specs.Companions.companions_at, audit_report.proofs.Reporting.copied_same}
use Rattle.audit_report.proofs.workers.audit_with.Goals as goal

pub returns-clause-report : goal.returns-clause-report
returns-clause-report g c =
    IfOk-weaker c.assemble.result _ _
    (λ r is. is c.args.geography.now c.args.plan.now (companions_at c.args.senate c.args.congress) (c.is_some.ensures ∙ sym (copied_same c.args.senate)) c.requires.auditable.companions_taken
    (rw c.new-work.ensures at c.in_ok-found.ensures))
    c.assemble.ensures
