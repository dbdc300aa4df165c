use Rattle.{std.proofs.{Common.{◌∙◌, sym, rules}, lemmas.Result.IfOk-weaker}, desk_model.specs.Companions.companions_at, audit_report.proofs.Reporting.copied_same}
use Rattle.audit_report.proofs.audit.audit.Goals as goal

pub returns : goal.returns
returns c =
    IfOk-weaker c.assemble.result _ _
    (λ r is. is c.args.geography.now c.args.plan.now (companions_at c.args.senate c.args.congress) (c.is_some.ensures ∙ sym (copied_same c.args.senate)) c.requires.companions_taken
    (search rules))
    c.assemble.ensures
