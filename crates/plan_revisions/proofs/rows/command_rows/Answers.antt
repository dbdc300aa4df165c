use Rattle.{std.proofs.Common.{rules, arith}, plan_revisions.proofs.{Accepted.rows_forked, CommandCounties.few_ranges, Counted.{changes_by, revised_by}, LastRevision.ranges_long}}
use Rattle.plan_revisions.proofs.rows.command_rows.Goals as goal

pub rows_between-requires-clause-changes : goal.rows_between-requires-clause-changes
rows_between-requires-clause-changes c = search (rules, changes_by)

pub rows_between-requires-clause-revised : goal.rows_between-requires-clause-revised
rows_between-requires-clause-revised c = revised_by c.args.shown.now c.args.command.now c.in-Whole.plan c.in-Whole.after c.args.then.now c.in-Whole.is c.requires.after

pub fork_rows-requires : goal.fork_rows-requires
fork_rows-requires c = search (rules, arith, c.in-Some.geography.now, few_ranges, c.blocks-blocks.ensures.valid.few, c.counties.result.now, c.counties.ensures)

pub returns-in-Fork : goal.returns-in-Fork
returns-in-Fork c = search (rules, ranges_long, rows_forked)
