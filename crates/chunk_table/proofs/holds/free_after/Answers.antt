use Rattle.{std.proofs.Common.{arith, rules}, chunk_table.proofs.Free.{free_above, free_next}}
use Rattle.chunk_table.proofs.holds.free_after.Goals as goal

pub returns-then-number-from : goal.returns-then-number-from
returns-then-number-from c = search (rules, arith, c.args.number, free_above, c.in-Some.from, c.if-number-from.true, c.in-Some.is)

pub returns : goal.returns
returns c = search (rules, arith, c.args.number, free_next, c.in-Some.from, c.if-number-from.false, c.in-Some.is)
