-- A refusal of a look-up below, told above.
use Rattle.{std.{specs.Prelude.{Result, IsErrAnd}, proofs.Common.{rules, ◌≡◌, true, Err, sym, subst, ◌∙◌}}, page_btree_gets.specs.{Errors.tree_error, Getting.ReadsErr}}
use Rattle.{page_btree_gets.specs.{claim.{Errors.GetErr, Keys.KeyMap, Map.InTxn}, declared.error.TreeError.TreeError}, page_store.specs.{Reading.ReadsOnly, declared.txn.Txn.Txn}}
use Rattle.{page_btree_gets.specs.declared.error.TreeError.TheVariants.{DeviceFault, NotAStore, Halted, NoPages, TooDeep, Memory}, page_store.specs.declared.pages.Pages.Pages}
use Rattle.page_store.specs.{claim.Transactions.{stored, disk_in, has_halted, HasFailed, IsQuiet, Passed, ReadErr}, gate_journal.declared.error.PageError.PageError}
use Rattle.{sector_device.specs.{claim.Disk.Image, declared.SectorDevice.Ghosts}, page_btree_gets.proofs.Outcomes.refused_after, page_store.proofs.Stops.failed_more}
use Rattle.page_store.specs.gate_journal.declared.error.PageError.TheVariants as page

-- a refusal is another where each case of it is
pub by_case : (A B : TreeError → Type 0) → (A DeviceFault → B DeviceFault) → (A NotAStore → B NotAStore) → (A Halted → B Halted) → (A NoPages → B NoPages) → (A TooDeep → B TooDeep) → (A Memory → B Memory) → (e : TreeError) → A e → B e
by_case A B failed unsound halted full deep want DeviceFault = failed
by_case A B failed unsound halted full deep want NotAStore = unsound
by_case A B failed unsound halted full deep want Halted = halted
by_case A B failed unsound halted full deep want NoPages = full
by_case A B failed unsound halted full deep want TooDeep = deep
by_case A B failed unsound halted full deep want Memory = want

module _ {D : Type 0} {g : Ghosts D} where
  -- a read is refused by two errors alone
  pub by_read : (B : TreeError → Type 0) (old new : Pages D g) → (HasFailed old new → B DeviceFault) → (has_halted old ≡ true → B Halted) → (e : PageError) → ReadErr old new e → B (tree_error e)
  by_read B old new failed halted page.DeviceFault why = failed why
  by_read B old new failed halted page.Halted why = halted why
  by_read B old new failed halted _ why = absurd why

  pub reads_more : (can below : Image → Type 0) (old mid new : Pages D g) → Passed old mid → IsQuiet mid new → ((disk_in new).is_honest → can (stored old) → below (stored mid)) → (e : TreeError) → ReadsErr below mid new e → ReadsErr can old new e
  reads_more can below old mid new passed quiet also e why = search (rules, by_case, failed_more old mid new passed quiet)

  pub get_fails : (below : Image → Type 0) (t : Txn) (old mid new : Pages D g) → Passed old mid → IsQuiet mid new → ((disk_in new).is_honest → (m : KeyMap) → InTxn t (stored old) m → below (stored mid)) → (e : TreeError) → ReadsErr below mid new e → GetErr t old new e
  get_fails below t old mid new passed quiet also e why = by_case (λ x. ReadsErr below mid new x) (λ x. GetErr t old new x) (failed_more old mid new passed quiet)
      (λ none honest m is. none honest (also honest m is)) (λ halted. sym passed.halted ∙ halted) (λ no. no) (λ no. no) (λ no. no) e why

  pub get_more : (t : Txn) (old mid new : Pages D g) → Passed old mid → IsQuiet mid new → (e : TreeError) → GetErr t mid new e → GetErr t old new e
  get_more t old mid new passed quiet e why = by_case (λ x. GetErr t mid new x) (λ x. GetErr t old new x) (failed_more old mid new passed quiet)
      (λ none honest m is. none honest m (subst (λ (S : Image). InTxn t S m) (sym (passed.quiet.same (quiet.honest honest))) is)) (λ halted. sym passed.halted ∙ halted) (λ no. no) (λ no. no) (λ no. no) e why

  -- by a `?`
  pub refused_below : {T U : Type 0} (can below : Image → Type 0) {old mid new : Pages D g} {r : Result T TreeError} {e : TreeError} → Passed old mid → ReadsOnly {A = U} (ReadsErr below mid new) mid new (Err e) → IsErrAnd r (λ x. x ≡ e) → ((disk_in new).is_honest → can (stored old) → below (stored mid)) → ReadsOnly (ReadsErr can old new) old new r
  refused_below can below {old} {mid} {new} {e} passed told is also = refused_after _ passed told is (reads_more can below old mid new passed told.quiet also e)
