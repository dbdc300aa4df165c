use Rattle.{std.proofs.{Common.rules, lemmas.Result.IfOk-weaker}, audit_report.proofs.Padded.padded_zeros}
use Rattle.audit_report.proofs.values.block_text.Goals as goal

pub returns : goal.returns
returns c = search (rules, IfOk-weaker, padded_zeros 15 c.args.id)
