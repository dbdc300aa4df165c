use Rattle.{std.proofs.Common.{◌∙◌, sym, subst, ℕ, rules}, gate_journal.specs.Recovery.HasRoom, sector_device.proofs.Moments.synced_still}
use Rattle.gate_journal.proofs.Quiet.{opens_so, looked_more, quiet_reads, reads_store, fault_starts, starts_ok, starts_err}
use Rattle.gate_journal.proofs.opening.start.Goals as goal

pub returns-in_err-sync-clause-opens : goal.returns-in_err-sync-clause-opens
returns-in_err-sync-clause-opens g c = opens_so (search rules) (search rules) (search rules)
    (λ honest. fault_starts _ _ _ _ c.from_residual.ensures.1 (c.in_err-sync.ensures.model honest))

pub returns-in_err-layout-clause-opens : goal.returns-in_err-layout-clause-opens
returns-in_err-layout-clause-opens g c = opens_so (search rules) (search rules) (search rules) (λ honest.
    let f = c.in_err-layout.ensures.looks.model honest in
    fault_starts _ _ _ _ c.from_residual-in_err-layout.ensures.1 (looked_more (c.in_ok-sync.ensures.model f.0.was_honest) f))

pub returns-in_default-clause-opens : goal.returns-in_default-clause-opens
returns-in_default-clause-opens g c = opens_so (search rules) (search rules) (search rules) (λ honest.
    let f = c.in_ok-layout.ensures.looks.model honest in
    let s = c.in_ok-sync.ensures.model f.0.was_honest in
    let seen = looked_more s f in
    let none = rw c.in_default.is at (c.in_ok-layout.ensures.looks.told honest) in
    record {
      was_honest = s.0.was_honest;
      faults = seen.0.faults;
      any_moment = λ all. quiet_reads _ all _ seen.0;
      passed = tt;
      faulted = λ is. absurd (search rules);
      refused = λ is all. none (reads_store _ all _ s.0);
      calm = λ _. seen.1.passed;
      untouched = λ _. seen.0;
      settled = tt;
      found = tt;
    })

pub returns-in_err-close_gate-clause-opens : goal.returns-in_err-close_gate-clause-opens
returns-in_err-close_gate-clause-opens g c = opens_so (search rules) (search rules) (search rules) (λ honest.
    let was = c.close_gate.ensures.honest honest in
    let f = c.in_ok-layout.ensures.looks.model was in
    let s = c.in_ok-sync.ensures.model f.0.was_honest in
    let room = rw c.in-Some.is at c.in_ok-layout.ensures.room in
    let layout = f.0.reads.same 0 (λ none. none) ∙ rw c.in-Some.is at (c.in_ok-layout.ensures.looks.told was) in
    starts_err _ _ _ _ c.in-Some.layout (looked_more s f) (subst (λ (k : ℕ). HasRoom k c.in-Some.layout.journal_pages c.in-Some.layout.pages)
    (sym c.find_layout.ensures.looks.sectors) room) layout _ _
    c.from_residual-in_err-close_gate.ensures.1 (c.in_err-close_gate.ensures.model honest (synced_still _ _ (c.in_ok-sync.ensures.synced f.0.was_honest) f.0) layout))

pub returns-clause-opens : goal.returns-clause-opens
returns-clause-opens g c = opens_so (search rules) (search rules) (search rules) (λ honest.
    let was = c.close_gate.ensures.honest honest in
    let f = c.in_ok-layout.ensures.looks.model was in
    let s = c.in_ok-sync.ensures.model f.0.was_honest in
    let room = rw c.in-Some.is at c.in_ok-layout.ensures.room in
    let layout = f.0.reads.same 0 (λ none. none) ∙ rw c.in-Some.is at (c.in_ok-layout.ensures.looks.told was) in
    starts_ok _ _ _ _ c.in-Some.layout (looked_more s f) (subst (λ (k : ℕ). HasRoom k c.in-Some.layout.journal_pages c.in-Some.layout.pages)
    (sym c.find_layout.ensures.looks.sectors) room) layout _
    (c.in_ok-close_gate.ensures.model honest (synced_still _ _ (c.in_ok-sync.ensures.synced f.0.was_honest) f.0) layout))
