use Rattle.{std.proofs.Common.◌∙◌, sector_device.specs.Held.image_of, sector_memory.proofs.Picks.stop_more}
use Rattle.sector_memory.proofs.memory.put_picks.Goals as goal

pub loop-pick-preserved : goal.loop-pick-preserved
loop-pick-preserved c = λ i. c.put_pick.ensures i ∙ stop_more c.args.picks.now c.loop-pick.pick-index c.args.unsynced.now (image_of c.args.sectors.now) (image_of c.loop-pick.sectors) i c.loop-pick-test.true (c.loop-pick.invariant i)
