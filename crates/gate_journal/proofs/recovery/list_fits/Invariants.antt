use Rattle.{std.proofs.Common.{◌≡◌, ◌<◌, ◌≤◌, ◌*◌, ℕ}, gate_journal.{specs.claim.Store.list_word, proofs.Quiet.SoFar}, sector_device.specs.claim.Disk.Nowhere}
use Rattle.gate_journal.proofs.recovery.list_fits.Given as goal

abbrev pub invariant-loop-s : goal.invariant-loop-s
invariant-loop-s g l =
    let old = g.D.SectorDevice.disk l.initial.device in
    record {
      sectors : (g.D.SectorDevice.disk l.device).sectors ≡ old.sectors;
      so_far : (g.D.SectorDevice.disk l.device).is_honest → SoFar Nowhere (λ _. (k : ℕ) → k < 1024 * l.s → 1 ≤ k → k ≤ l.count → list_word old.reads k < l.layout.pages) old (g.D.SectorDevice.disk l.device);
    }
