use Rattle.{std.proofs.{Common.{◌≡◌, ◌∙◌, ℕ, List, get_or, sym, ap, subst, refl, rules}, lemmas.Bool.false≢true}, gate_journal.specs.Recovery.NamesPages}
use Rattle.{gate_journal.specs.claim.Store.{IsStore, gate, list_word}, sector_device.{specs.claim.Disk.{Nowhere, Image}, proofs.Moments.{touches_more, synced_still}}}
use Rattle.gate_journal.proofs.Quiet.{opens_so, looked_more, same_reads, quiet_recovers, fault_recovers, back_recovers}
use Rattle.gate_journal.proofs.opening.close_gate.Goals as goal

pub returns-in_err-read : goal.returns-in_err-read
returns-in_err-read g c = opens_so (search rules) (search rules) (search rules) (λ honest synced layout.
    fault_recovers c.args.layout.journal_pages c.args.layout.pages (g.D.SectorDevice.disk c.args.device.now) synced _ _ _ c.from_residual.ensures.1
    (c.in_err-read.ensures.model honest))

pub returns-then-sector : goal.returns-then-sector
returns-then-sector g c = opens_so (search rules) (search rules) (search rules) (λ honest synced layout.
    let a = g.D.SectorDevice.disk c.args.device.now in
    let b = g.D.SectorDevice.disk c.read.new.self in
    let r = c.in_ok-read.ensures.model honest in
    let read = c.in_ok-read.ensures.reads honest in
    let shut : gate b.reads ≡ 165 → ⊥ = λ is. c.if-sector.true (ap (λ (s : List ℕ). get_or s 0 0) (read ∙ sym (r.0.reads.same 1 (λ none. none))) ∙ is) in
    let header = r.0.reads.same 0 (λ none. none) ∙ layout in
    quiet_recovers c.args.layout.journal_pages c.args.layout.pages a synced b _ r.0 r.1.passed (λ is. absurd (search rules)) (λ is store. absurd (search rules)) (λ _. r.1.passed)
    (search (rules, header, shut, synced_still a b synced r.0)))

pub returns-in_err-count : goal.returns-in_err-count
returns-in_err-count g c = opens_so (search rules) (search rules) (search rules) (λ honest synced layout.
    let s = c.in_err-count.ensures.model honest in
    let both = looked_more (c.in_ok-read.ensures.model s.0.was_honest) s in
    fault_recovers c.args.layout.journal_pages c.args.layout.pages (g.D.SectorDevice.disk c.args.device.now) synced _ _ _ c.from_residual-in_err-count.ensures.1 both)

pub returns-then-count-layout : goal.returns-then-count-layout
returns-then-count-layout g c = opens_so (search rules) (search rules) (search rules) (λ honest synced layout.
    let a = g.D.SectorDevice.disk c.args.device.now in
    let s = c.in_ok-count.ensures.model honest in
    let r = c.in_ok-read.ensures.model s.0.was_honest in
    let same = same_reads a (g.D.SectorDevice.disk c.read.new.self) r.0 in
    let is_open : gate a.reads ≡ 165 = sym (ap (λ (s : List ℕ). get_or s 0 0) (c.in_ok-read.ensures.reads s.0.was_honest)) ∙ c.if-sector.false in
    let count : c.in_ok-count.count ≡ list_word a.reads 0 = c.in_ok-count.ensures.told honest ∙ sym (ap (λ (x : Image). list_word x 0) same) in
    search (rules, quiet_recovers, touches_more))

pub returns-in_err-list_fits : goal.returns-in_err-list_fits
returns-in_err-list_fits g c = opens_so (search rules) (search rules) (search rules) (λ honest synced layout.
    let f = c.in_err-list_fits.ensures.model honest in
    let s = c.in_ok-count.ensures.model f.0.was_honest in
    let all = looked_more (looked_more (c.in_ok-read.ensures.model s.0.was_honest) s) f in
    fault_recovers c.args.layout.journal_pages c.args.layout.pages (g.D.SectorDevice.disk c.args.device.now) synced _ _ _ c.from_residual-in_err-list_fits.ensures.1 all)

pub returns-then-not-branch : goal.returns-then-not-branch
returns-then-not-branch g c = opens_so (search rules) (search rules) (search rules) (λ honest synced layout.
    let n = c.args.layout.pages in
    let a = g.D.SectorDevice.disk c.args.device.now in
    let b = g.D.SectorDevice.disk c.read.new.self in
    let f = c.in_ok-list_fits.ensures.model honest in
    let s = c.in_ok-count.ensures.model f.0.was_honest in
    let r = c.in_ok-read.ensures.model s.0.was_honest in
    let ab = touches_more Nowhere Nowhere _ _ _ (λ i none. none) r.0 s.0 in
    let is_open : gate a.reads ≡ 165 = sym (ap (λ (s : List ℕ). get_or s 0 0) (c.in_ok-read.ensures.reads s.0.was_honest)) ∙ c.if-sector.false in
    let count : c.in_ok-count.count ≡ list_word a.reads 0 = c.in_ok-count.ensures.told f.0.was_honest ∙ sym (ap (λ (x : Image). list_word x 0) (same_reads a b r.0)) in
    let fits = c.in_ok-list_fits.ensures.told honest in
    quiet_recovers c.args.layout.journal_pages n a synced _ _ (touches_more Nowhere Nowhere _ _ _ (λ i none. none) ab f.0) tt (λ is. absurd (search rules))
    (λ is store. search (rules, same_reads, false≢true)) (λ _. f.1.passed ∙ s.1.passed ∙ r.1.passed) tt)

pub returns : goal.returns
returns g c = opens_so (search rules) (search rules) (search rules) (λ honest synced layout.
    let J = c.args.layout.journal_pages in
    let n = c.args.layout.pages in
    let a = g.D.SectorDevice.disk c.args.device.now in
    let e = g.D.SectorDevice.disk c.list_fits.new.device in
    let f = c.in_ok-list_fits.ensures.model (c.bring_back.ensures.honest honest) in
    let s = c.in_ok-count.ensures.model f.0.was_honest in
    let r = c.in_ok-read.ensures.model s.0.was_honest in
    let seen = looked_more (looked_more r s) f in
    let same = same_reads a e seen.0 in
    let is_open : gate e.reads ≡ 165 = sym (ap gate same) ∙ sym (ap (λ (s : List ℕ). get_or s 0 0) (c.in_ok-read.ensures.reads s.0.was_honest)) ∙ c.if-sector.false in
    let count : c.in_ok-count.count ≡ list_word e.reads 0 = c.in_ok-count.ensures.told f.0.was_honest ∙ sym (ap (λ (x : Image). list_word x 0) (same_reads a _ r.0))
    ∙ ap (λ (x : Image). list_word x 0) same in
    let fits = (c.in_ok-list_fits.ensures.told (c.bring_back.ensures.honest honest)).0 (rw c.if-not-branch.false refl) in
    let names : NamesPages c.in_ok-count.count n e.reads = subst (λ (x : Image). NamesPages c.in_ok-count.count n x) (same_reads _ e f.0) fits in
    let store : IsStore J n e.reads = search rules in
    back_recovers J n a synced e _ _ seen.0 seen.1.passed (c.bring_back.ensures.model honest (synced_still a e synced seen.0) is_open count store))
