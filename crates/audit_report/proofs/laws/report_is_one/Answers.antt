use Rattle.audit_report.proofs.OneReport.{one_report}
use Rattle.audit_report.proofs.laws.report_is_one.Goals as goal

pub returns : goal.returns
returns c = one_report c.breaks_are_one_list.ensures c.rising_lists_are_one.ensures
