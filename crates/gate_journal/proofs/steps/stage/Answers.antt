use Rattle.{std.proofs.Common.{◌≡◌, ◌+◌, ◌/◌, ◌∙◌, length, rules, arith}, gate_journal.specs.{Steps.{Span, IsStaged}, Store.Staging, claim.Store.first_copy}}
use Rattle.{sector_device.{specs.claim.Disk.Nowhere, proofs.Moments.{touches_more, touches_wider, then_sync}}, gate_journal.proofs.{Images.{stages_same, staged_by}, Quiet.step_so}}
use Rattle.gate_journal.proofs.steps.stage.Goals as goal

pub returns-in_err-write_copies : goal.returns-in_err-write_copies
returns-in_err-write_copies g c = step_so (search rules) (λ honest.
    let J = c.args.journal_pages in
    let ws = c.args.writes.now in
    let copied = c.write_copies.ensures.model honest in
    let listed = c.in_ok-write_list.ensures.model copied.touches.was_honest in
    let synced = c.in_ok-sync.ensures.model listed.touches.was_honest in
    let first = touches_wider Nowhere (Staging J) _ _ (λ i none. absurd none) synced.0 in
    let second = touches_more (Staging J) (Span 2 (length ws / 1024 + 1)) _ _ _ (λ i s. (omega arith, omega arith)) first listed.touches in
    let third = touches_more (Staging J) (Span (first_copy J) (length ws)) _ _ _ (λ i s. (omega arith, omega arith)) second copied.touches in
    let passed : (g.D.SectorDevice.disk c.write_list.new.device).faults ≡ (g.D.SectorDevice.disk c.args.device.now).faults = listed.cause.passed ∙ synced.1.passed in
    search rules)

pub returns : goal.returns
returns g c = step_so (search rules) (λ honest.
    let J = c.args.journal_pages in
    let ws = c.args.writes.now in
    let last = c.sync-2.ensures.model honest in
    let copied = c.in_ok-write_copies.ensures.model last.0.was_honest in
    let listed = c.in_ok-write_list.ensures.model copied.touches.was_honest in
    let synced = c.in_ok-sync.ensures.model listed.touches.was_honest in
    let first = touches_wider Nowhere (Staging J) _ _ (λ i none. absurd none) synced.0 in
    let second = touches_more (Staging J) (Span 2 (length ws / 1024 + 1)) _ _ _ (λ i s. (omega arith, omega arith)) first listed.touches in
    let third = touches_more (Staging J) (Span (first_copy J) (length ws)) _ _ _ (λ i s. (omega arith, omega arith)) second copied.touches in
    let staged = staged_by J ws (g.D.SectorDevice.disk c.write_list.new.device) (g.D.SectorDevice.disk c.write_copies.new.device) c.requires.few listed.done copied.touches.reads copied.done in
    then_sync (Staging J) (IsStaged J ws) _ _ _ _ third (copied.cause.passed ∙ listed.cause.passed ∙ synced.1.passed) last.0 last.1 (c.sync-2.ensures.synced honest)
    (λ on_disk. record { stages = stages_same J ws Nowhere _ _ c.requires.few (λ i none s. none) last.0.reads staged; synced = on_disk }))
