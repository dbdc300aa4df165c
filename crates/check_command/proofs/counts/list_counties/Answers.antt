use Rattle.{std.proofs.Common.arith, check_command.proofs.Counted.counties_more}
use Rattle.check_command.proofs.counts.list_counties.Goals as goal

pub loop-county-preserved : goal.loop-county-preserved
loop-county-preserved c = λ rows blocks_are people_are.
    counties_more rows c.args.blocks.now c.args.people.now c.loop-county.county c.loop-county.counties.items c.push_if_there.new.counties.items
    (omega (arith, c.requires.blocks)) blocks_are people_are (c.loop-county.invariant rows blocks_are people_are) c.in_ok-push_if_there.ensures
