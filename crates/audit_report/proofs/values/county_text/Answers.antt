use Rattle.{std.proofs.{Common.◌∙◌, lemmas.Result.IfOk-weaker}, audit_report.proofs.Padded.padded_zeros}
use Rattle.audit_report.proofs.values.county_text.Goals as goal

pub returns : goal.returns
returns c = let e = rw c.laid_out.ensures at c.format.ensures.ok in IfOk-weaker c.format.result _ _ (λ s is. is ∙ padded_zeros 3 c.args.county) e
