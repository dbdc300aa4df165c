use Rattle.{std.proofs.Common.{◌≡◌, take}, gate_journal.{specs.{Steps.HasHomes, Store.Homes, claim.Store.{home, copies, list_word, IsValid}}, proofs.Quiet.SoFar}}
use Rattle.gate_journal.proofs.recovery.copy_back.Given as goal

abbrev pub invariant-loop-k : goal.invariant-loop-k
invariant-loop-k g l =
    let old = g.D.SectorDevice.disk l.initial.device in
    let ws = copies l.layout.journal_pages old.reads in
    record {
      sectors : (g.D.SectorDevice.disk l.device).sectors ≡ old.sectors;
      honest : (g.D.SectorDevice.disk l.device).is_honest → old.is_honest;
      so_far : (g.D.SectorDevice.disk l.device).is_honest → l.count ≡ list_word old.reads 0 → IsValid l.layout.journal_pages l.layout.pages old.reads → SoFar (Homes (home l.layout.journal_pages) ws) (HasHomes (home l.layout.journal_pages) (take l.k ws) old) old (g.D.SectorDevice.disk l.device);
    }
