use Rattle.{std.proofs.Common.{[], get_or}, desk_store_pages.proofs.Looking.tells, plan_revisions.proofs.CountyLists.county_there}
use Rattle.plan_revisions.proofs.revision_reads.append_county.Goals as goal

pub returns : goal.returns
returns g c = tells c.get_chunk.result c.get_chunk.ensures
    (λ m u is all said. is.0 (get_or all c.args.county []) (county_there c.args.numbers.now c.args.ranges.now c.args.county _ m all c.requires.within said))
    (λ m said. (get_or said.0 c.args.county [], county_there c.args.numbers.now c.args.ranges.now c.args.county _ m said.0 c.requires.within said.1))
