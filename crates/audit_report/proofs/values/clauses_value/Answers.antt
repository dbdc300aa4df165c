use Rattle.{std.proofs.Common.{arith, rules}, audit_report.{specs.claim.ReportText.clause_data, proofs.Lists.{AreFirst, first_written, text_more}}}
use Rattle.audit_report.proofs.values.clauses_value.Goals as goal

pub returns : goal.returns
returns c = first_written clause_data c.args.clauses.now c.loop-clause.clause-index c.loop-clause.values (omega (arith, c.loop-clause-test.false)) c.loop-clause.invariant

pub loop-clause-preserved : goal.loop-clause-preserved
loop-clause-preserved c = search (rules, AreFirst, text_more)
