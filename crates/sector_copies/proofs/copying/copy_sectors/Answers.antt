use Rattle.{std.proofs.Common.arith, sector_copies.proofs.Sectors.{copied_more, copied_failed}}
use Rattle.sector_copies.proofs.copying.copy_sectors.Goals as goal

pub returns-in-Err : goal.returns-in-Err
returns-in-Err g c = copied_failed c.loop-i.i _ _ _ _ _ _ (omega (arith, c.loop-i-test.true, c.count-count.ensures)) c.loop-i.invariant _ c.in-Err.ensures

pub loop-i-preserved : goal.loop-i-preserved
loop-i-preserved g c = copied_more c.loop-i.i _ _ _ _ _ _ (omega (arith, c.loop-i-test.true, c.count-count.ensures)) c.loop-i.invariant c.in-Ok.ensures
