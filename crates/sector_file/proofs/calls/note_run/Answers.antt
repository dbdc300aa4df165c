use Rattle.{std.proofs.Common.{sym, ◌∙◌, arith, rules}, sector_file.proofs.Runs.{run_begins, run_more, run_ends}}
use Rattle.sector_file.proofs.calls.note_run.Goals as goal

pub loop-k-init : goal.loop-k-init
loop-k-init g c = record { noted = run_begins c.args.first c.args.run.now c.args.log.now.calls }

pub loop-k-preserved : goal.loop-k-preserved
loop-k-preserved g c = search (rules, run_more)

pub returns : goal.returns
returns g c = sym (run_ends c.args.first c.loop-k.k c.args.run.now c.loop-k.log.calls (let least = c.loop-k-test.false in let most = c.loop-k.auto.k-end in omega arith)) ∙ c.loop-k.invariant.noted
