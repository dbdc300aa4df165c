-- The texts of audits.
use Rattle.std.specs.Prelude.{◌≡◌, ℕ, List}
use Rattle.{audit_report.specs.claim.{Figures.Figures, Report.IsReport, ReportText.report_text}, desk_model.specs.claim.{Desk.Desk, Geography.GeographyModel, Outcome.QueryMay}}
use Rattle.desk_model.specs.{claim.Subject.AuditSubject, declared.{command.Query.Query, reply.Reply.Reply}}

-- the text tells the figures of a report on the subject
pub record IsReportText (g : GeographyModel) (subject : AuditSubject) (text : List ℕ) : Type 0 where
  pub figures : Figures
  pub report : IsReport g subject.kind subject.n subject.districts subject.beside figures
  pub told : text ≡ report_text figures

-- a query is answered by the desk and audited by the law, unless memory is wanting
abbrev pub AskMay : Desk → Query → Reply → Type 0
AskMay = QueryMay IsReportText
