use Rattle.{std.proofs.Common.{◌≡◌, take}, gate_journal.{specs.{Steps.HasHomes, Store.Homes}, proofs.Quiet.SoFar}}
use Rattle.gate_journal.proofs.steps.write_homes.Given as goal

abbrev pub invariant-loop-k : goal.invariant-loop-k
invariant-loop-k g l = record {
  sectors : (g.D.SectorDevice.disk l.device).sectors ≡ (g.D.SectorDevice.disk l.initial.device).sectors;
  so_far : (g.D.SectorDevice.disk l.device).is_honest → SoFar (Homes l.home l.writes) (HasHomes l.home (take l.k l.writes) (g.D.SectorDevice.disk l.initial.device)) (g.D.SectorDevice.disk l.initial.device) (g.D.SectorDevice.disk l.device);
}
