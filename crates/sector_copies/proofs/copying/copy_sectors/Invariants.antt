use Rattle.sector_copies.specs.Copies.{HasCopied}
use Rattle.sector_copies.proofs.copying.copy_sectors.Given as goal

abbrev pub invariant-loop-i : goal.invariant-loop-i
invariant-loop-i g l = HasCopied l.i (g.S.SectorDevice.disk l.initial.source) (g.S.SectorDevice.disk l.source) (g.T.SectorDevice.disk l.initial.target) (g.T.SectorDevice.disk l.target)
