use Rattle.gate_journal.specs.Recovery.{SectorNames}
use Rattle.gate_journal.proofs.recovery.names_pages.Given as goal

abbrev pub invariant-loop-j : goal.invariant-loop-j
invariant-loop-j l = SectorNames l.from l.count l.pages l.sector l.j
