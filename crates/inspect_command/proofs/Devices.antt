-- A device whose store is verified.
use Rattle.{std.{specs.Prelude.{Option, Some, None, Result, Ok, Err, IfOk, IfErr}, proofs.lemmas.Option.none-some}, desk_model.specs.{Ranges.ranges_in, claim.Desk.Desk}}
use Rattle.{std.proofs.Common.{rules, ◌≡◌, ◌+◌, ◌≤◌, ℕ, Bool, true, false, inl, inr, refl, sym, ap, subst, ◌∙◌, arith}, desk_store_pages.specs.Errors.page_refusal}
use Rattle.desk_store_pages.specs.{Openings.{LeavesOneOf, OpensOneOf, StillStands}, claim.Desks.{HoldsDeskOf, InPages as HoldsDesk, InTxn as ReadsIn}}
use Rattle.{desk_store_pages.specs.{claim.Openings.{LeavesOneAs, OpensOneAs}, declared.error.StoreError.StoreError}, inspect_command.specs.Sound.{HasSound, HasStray}}
use Rattle.inspect_command.specs.Verifying.{HoldsOwned, HoldsSound, HoldsStray, IsUnowned, IsFoundWrong, IsLookedAt, NamesPageOrRow, IsRefused, IsSparedFor, IsUnsound, StrayOr, TellsPages, Unsound, VerifiesDevice}
use Rattle.{inspect_command.specs.declared.{refusal.Refusal.Refusal, verifying.Verified.Verified}, page_btree.specs.checks.{Errors.CheckErr, Faults.{IsWrongPage, TellsOf}}}
use Rattle.page_btree.specs.{checks.{Owners.AreOwned, declared.error.{PageFault.PageFault, PagesError.PagesError}}, gets.claim.Map.{Holds, InPages as HoldsRows, InTxn}}
use Rattle.page_store.specs.{Transactions.{IsUntouched, OpenErr}, claim.Chain.{root_in, free_in}, declared.{pages.Pages.Pages, txn.Txn.Txn}, gate_journal.claim.Store.{home, pages}}
use Rattle.{page_store.specs.claim.Transactions.{stored, disk_in, device_in, count_of, journal_of, has_halted, txn_pages, IsKept, IsQuiet}, sector_device.specs.Disk.IsSynced}
use Rattle.{page_store.specs.gate_journal.{Recovery.{HasRoom, AllStores, ReadsAs, Found}, declared.error.PageError.PageError}, sector_device.specs.claim.Disk.{Disk, Image}}
use Rattle.{sector_device.specs.{claim.Moments.LeavesOnly, declared.SectorDevice.Ghosts}, store_command.specs.{Faults.fault_of_store, Reading.ReadsDesk}}
use Rattle.{store_command.specs.declared.fault.StoreFault.{StoreFault, TheVariants.{NotAStore, OldVersion, DeviceFault, Memory}}, store_verification.specs.Looking.IsSoundAt}
use Rattle.{store_verification.specs.rows.{Strays.AllBelong, declared.wrong.WrongRow.WrongRow}, page_store.proofs.Stops.{leaves_quiet, quiet_more}}
use Rattle.{desk_store_pages.proofs.Found.{page_stores_of, found_desk, found_after, pages_stand, rows_before}, store_command.proofs.Read.{left_opens, leaves_new, all_either}}
use Rattle.store_verification.proofs.Seen.{agreed, same_layout}
use Rattle.{store_command.specs.desk_theorem_runs.Recovery.ImagesAreOne, desk_store_rows.specs.claim.Rows.KeyMap, inspect_command.proofs.Unread.{no_less, opened_leaves, opened_versions}, store_command.proofs.desk_theorem.Device.read_on}
use Rattle.page_store.specs.gate_journal.declared.error.PageError.TheVariants as page
use Rattle.page_btree.specs.checks.declared.error.PagesError.TheVariants as owners
use Rattle.store_command.proofs.desk_store.Prepared.{IsBegun, begun_rows}

-- ---- what is told for another reason than a part of the store
pub other_told : (refusal : Refusal) (fault : StoreFault) (P : Type 0) (Q : StoreFault → Type 0) → refusal.fault ≡ fault → refusal.is_stray ≡ false → refusal.page ≡ None → Q fault → StrayOr refusal.is_stray refusal.fault P (Q refusal.fault × (refusal.page ≡ None))
other_told refusal fault P Q told opens whole why = subst (λ (is : Bool). StrayOr is refusal.fault P (Q refusal.fault × (refusal.page ≡ None))) (sym opens) (subst Q (sym told) why, whole)

pub map_stray : (is : Bool) (fault : StoreFault) (P Q R S : Type 0) → (P → R) → (Q → S) → StrayOr is fault P Q → StrayOr is fault R S
map_stray true fault P Q R S part other why = (why.0, part why.1)
map_stray false fault P Q R S part other why = other why

-- what is so of so many pages, by other names
both_same : (P : ℕ → Image → Type 0) {m n : ℕ} {X Y : Image} → m ≡ n → X ≡ Y → P m X → P n Y
both_same P {m} {n} {X} {Y} count same is = subst (λ (k : ℕ). P k Y) count (subst (P m) same is)

module _ {D : Type 0} {g : Ghosts D} where
  pub holds_sound : (t : Txn) (a b : Pages D g) (found : Verified) → IsBegun a t → IsQuiet a b → found.pages ≡ txn_pages t
      → ((disk_in b).is_honest → (m : KeyMap) → InTxn t (stored a) m → HasSound found.rows m) → HoldsSound b found
  holds_sound t a b found begun quiet pages sound = record {
    pages = pages ∙ begun.pages ∙ sym quiet.count;
    sound = λ honest m holds. sound honest m (begun_rows a t m begun (quiet.honest honest) (rows_before a b m quiet honest holds));
  }

  -- ---- a row that doesn't belong
  pub holds_stray : (t : Txn) (a b : Pages D g) (row : WrongRow) (found : Option WrongRow) → found ≡ Some row → IsBegun a t → IsQuiet a b
      → ((disk_in b).is_honest → (m : KeyMap) → InTxn t (stored a) m → HasStray m row.key)
      → ((disk_in b).is_honest → (d : Desk) (h : ReadsIn t (stored a) d) → AllBelong (ranges_in d.geography) h.m → found ≡ None) → HoldsStray b row
  holds_stray t a b row found is begun quiet stray right = record {
    stray = λ honest m holds. stray honest m (begun_rows a t m begun (quiet.honest honest) (rows_before a b m quiet honest holds));
    unfit = λ honest d h belong.
        let holds = begun_rows a t h.m begun (quiet.honest honest) (rows_before a b h.m quiet honest h.holds) in
        none-some row (sym (right honest d (record { m = h.m; holds = holds; is = h.is }) belong) ∙ is);
  }

  -- ---- pages that were looked at before
  after : (P : ℕ → Image → Type 0) {a b : Pages D g} → IsQuiet a b → (disk_in b).is_honest → P (count_of a) (stored a) → P (count_of b) (stored b)
  after P quiet honest is = both_same P (sym quiet.count) (sym (quiet.same honest)) is

  unsound_after : (a b c : Pages D g) (fault : StoreFault) → IsQuiet a b → IsQuiet b c → Unsound b c fault → Unsound a c fault
  unsound_after a b c NotAStore first then why = λ honest d holds. why honest d (after (λ n P. HoldsDeskOf true n P (root_in P) (free_in P) d) first (then.honest honest) holds)
  unsound_after a b c OldVersion first then why = λ honest d holds. why honest d (after (λ n P. HoldsDeskOf true n P (root_in P) (free_in P) d) first (then.honest honest) holds)
  unsound_after a b c _ first then why = why

  pub then_unsound : (a b c : Pages D g) (result : Result Verified Refusal) → IsQuiet a b → IsQuiet b c → IfErr result (λ r. IsUnsound b c r) → IfErr result (λ r. IsUnsound a c r)
  then_unsound a b c (Ok v) first then why = why
  then_unsound a b c (Err r) first then why = search (rules, unsound_after)

  pub then_owned : (a b c : Pages D g) (result : Result Verified Refusal) → IsQuiet a b → IsQuiet b c → ((disk_in b).is_honest → AreOwned (count_of a) (stored a)) → IfOk result (λ v. HoldsSound c v) → IfOk result (λ v. HoldsOwned c v)
  then_owned a b c (Err r) first then owned sound = sound
  then_owned a b c (Ok v) first then owned sound = record {
    sound = sound;
    owned = λ honest. after AreOwned (quiet_more a b c first then) honest (owned (then.honest honest));
  }

  pub pages_told : (a b : Pages D g) (e : PagesError) (refusal : Refusal) → has_halted a ≡ false → IsQuiet a b → TellsPages e refusal → CheckErr (AreOwned (count_of a) (stored a)) a b e
      → ((disk_in b).is_honest → TellsOf (count_of a) (stored a) e) → IsUnsound a b refusal
  pages_told a b (owners.Unsound page) refusal working quiet told why wrong =
      let named : IsUnowned b page = record { unowned = λ honest. after (λ n P. AreOwned n P → ⊥) quiet honest (why honest); told = λ honest. after (λ n P. IsWrongPage n P page.page page.kind) quiet honest (wrong honest) } in
      subst (λ (is : Bool). StrayOr is refusal.fault (NamesPageOrRow b refusal.page refusal.row) (Unsound a b refusal.fault × (refusal.page ≡ None))) (sym told.0)
      (told.1, subst (λ (o : Option PageFault). NamesPageOrRow b o refusal.row) (sym told.2) named)
  pages_told a b owners.DeviceFault refusal working quiet told why wrong = other_told refusal DeviceFault (NamesPageOrRow b refusal.page refusal.row) (Unsound a b) told.1 told.0 told.2 why.halted
  pages_told a b owners.Halted refusal working quiet told why wrong = absurd (let clash : true ≡ false = sym why ∙ working in cc)
  pages_told a b owners.Memory refusal working quiet told why wrong = other_told refusal Memory (NamesPageOrRow b refusal.page refusal.row) (Unsound a b) told.1 told.0 told.2 tt

module _ {D : Type 0} (g : Ghosts D) where
  -- ---- what stands
  pub not_opened : (device left : D) (e : PageError) → OpenErr g device left e → ((g.disk left).is_honest → e ≡ page.NotAStore → IsUntouched (g.disk device) (g.disk left)) → IsSparedFor g device left (fault_of_store (page_refusal e))
  not_opened device left page.NotAStore why untouched = λ honest. inl (untouched honest refl)
  not_opened device left page.DeviceFault why untouched = tt
  not_opened device left page.Memory why untouched = λ honest. let p = why honest in (p.0, p.1.0, p.1.1)
  not_opened device left _ why untouched = absurd why

  still_spared : (device left : D) (fault : StoreFault) → ((g.disk left).is_honest → StillStands (g.disk device) (g.disk left)) → IsSparedFor g device left fault
  still_spared device left DeviceFault stands = tt
  still_spared device left Memory stands = λ honest. let s = stands honest in (s.J, s.n, s.found)
  still_spared device left _ stands = λ honest. inr (stands honest)

module _ {D : Type 0} (g : Ghosts D) (law : ImagesAreOne) (device : D) (synced : IsSynced (g.disk device)) where
  abbrev old : Disk
  old = g.disk device

  -- ---- what isn't opened
  pub page_refused : (left : D) (e : PageError) → OpenErr g device left e → IsRefused g device left (fault_of_store (page_refusal e))
  page_refused left page.NotAStore why = λ honest d reads. why honest (page_stores_of old (all_either old synced true d reads))
  page_refused left page.DeviceFault why = why
  page_refused left page.Memory why = tt
  page_refused left _ why = absurd why

  pub looked_at : (left : D) → (g.disk left).sectors ≡ old.sectors → ((g.disk left).is_honest → old.is_honest) → LeavesOneOf old (g.disk left) → LeavesOneAs old (g.disk left) → ((g.disk left).is_honest → old.faults ≤ (g.disk left).faults) → IsLookedAt g device left
  looked_at left sectors honest leaves versions more = record {
    sectors = sectors;
    honest = honest;
    any_moment = λ good d reads. leaves_new old synced law (g.disk left) good leaves d reads;
    life = read_on law old (g.disk left) sectors honest versions more;
  }

  pub not_opened_verifies : (left : D) (e : PageError) (refusal : Refusal) {fault : StoreFault} {error : StoreError} → refusal.fault ≡ fault → fault ≡ fault_of_store error → error ≡ page_refusal e → refusal.is_stray ≡ false → refusal.page ≡ None → (g.disk left).sectors ≡ old.sectors
      → ((g.disk left).is_honest → old.is_honest) → ((g.disk left).is_honest → AllStores old → LeavesOnly (ReadsAs old) old (g.disk left)) → OpenErr g device left e
      → ((g.disk left).is_honest → e ≡ page.NotAStore → IsUntouched old (g.disk left)) → ((g.disk left).is_honest → old.faults ≤ (g.disk left).faults) → VerifiesDevice g device (Err refusal) left
  not_opened_verifies left e refusal same is from opens whole sectors honest leaves why untouched more =
      let told = same ∙ is ∙ ap (λ (error : StoreError). fault_of_store error) from in (
        looked_at left sectors honest (opened_leaves old (g.disk left) leaves) (opened_versions old (g.disk left) leaves) more,
        subst (λ (f : StoreFault). IsSparedFor g device left f) (sym told) (not_opened g device left e why untouched),
        other_told refusal (fault_of_store (page_refusal e)) (IsFoundWrong g device left refusal.page refusal.row) (IsRefused g device left) told opens whole (page_refused left e why),
      )

  -- ---- what is
  module _ (a b : Pages D g) (room : HasRoom old.sectors (journal_of a) (count_of a)) (found : (disk_in a).is_honest → Found (journal_of a) (count_of a) old (disk_in a)) (working : has_halted a ≡ false)
      (passed : (disk_in a).is_honest → (disk_in a).faults ≡ old.faults) (kept : (disk_in a).is_honest → IsKept a) (quiet : IsQuiet a b) where
    reads_none : ((disk_in b).is_honest → (d : Desk) → HoldsDesk a d → ⊥) → (disk_in b).is_honest → (d : Desk) → ReadsDesk old d → ⊥
    reads_none none honest d reads = let it = found (quiet.honest honest) in none honest d (found_desk old a it room (true, d) (left_opens old synced true d reads it.was it.left))

    refused : (fault : StoreFault) → Unsound a b fault → IsRefused g device (device_in b) fault
    refused NotAStore why = reads_none why
    refused OldVersion why = reads_none why
    refused DeviceFault why = λ honest. let rises = quiet.rose working why honest in let same = passed (quiet.honest honest) in omega (arith, rises, same)
    refused _ why = why

    same_sectors : (disk_in b).sectors ≡ (disk_in a).sectors
    same_sectors = sym b.journal.room.whole ∙ ap (λ J. home J + count_of b) quiet.journal ∙ ap (λ n. home (journal_of a) + n) quiet.count ∙ a.journal.room.whole

    looked : IsLookedAt g device (device_in a) → LeavesOneOf old (disk_in a) → LeavesOneAs old (disk_in a) → IsLookedAt g device (device_in b)
    looked first leaves versions = looked_at (device_in b) (same_sectors ∙ first.sectors) (λ honest. first.honest (quiet.honest honest)) (λ honest all. leaves_quiet a b quiet honest (OpensOneOf old) old (leaves (quiet.honest honest) all))
        (λ honest all. leaves_quiet a b quiet honest (OpensOneAs old) old (versions (quiet.honest honest) all)) (λ honest. no_less a b old working passed quiet honest)

    told : (result : Result Verified Refusal) → IsLookedAt g device (device_in b) → IfOk result (λ v. HoldsOwned b v) → IfErr result (λ r. IsUnsound a b r) → VerifiesDevice g device result (device_in b)
    told (Ok v) look sound why = (look, pages_stand old a b found kept quiet, record { ps = b; back = refl; found = λ honest. found_after old a b found quiet honest; sound = sound })
    told (Err r) look sound why = (
      look,
      still_spared g device (device_in b) r.fault (pages_stand old a b found kept quiet),
      map_stray r.is_stray r.fault (NamesPageOrRow b r.page r.row) (Unsound a b r.fault × (r.page ≡ None)) (IsFoundWrong g device (device_in b) r.page r.row) (IsRefused g device (device_in b) r.fault × (r.page ≡ None))
          (λ part. record { ps = b; back = refl; found = λ honest. found_after old a b found quiet honest; wrong = part }) (λ other. (refused r.fault other.0, other.1)) why,
    )

    pub verified : (result : Result Verified Refusal) (left : D) → left ≡ device_in b → IsLookedAt g device (device_in a) → LeavesOneOf old (disk_in a) → LeavesOneAs old (disk_in a)
        → IfOk result (λ v. HoldsOwned b v) → IfErr result (λ r. IsUnsound a b r) → VerifiesDevice g device result left
    verified result left is first leaves versions sound why = subst (λ (d : D). VerifiesDevice g device result d) (sym is) (told result (looked first leaves versions) sound why)

-- what readers found of the device is so of pages that are opened on it
module _ {D : Type 0} {g : Ghosts D} (old : Disk) (synced : IsSynced old) (a : Pages D g) (room : HasRoom old.sectors (journal_of a) (count_of a))
    (found : (disk_in a).is_honest → Found (journal_of a) (count_of a) old (disk_in a)) (rows : ℕ) (sound : (disk_in a).is_honest → IsSoundAt old.sectors old.reads rows) where
  module _ (honest : (disk_in a).is_honest) where
    was_read : (found honest).was ≡ old.reads
    was_read = sym (agreed old.reads (found honest).was (synced (found honest).was (found honest).left))

    layout : (journal_of a ≡ (sound honest).J) × (count_of a ≡ (sound honest).n)
    layout = same_layout old.sectors old.reads (sound honest).J (sound honest).n (journal_of a) (count_of a) (sound honest).room (sound honest).header room (sym (ap (λ (c : Image). c 0) was_read) ∙ (found honest).header)

    stored_is : stored a ≡ pages (sound honest).J old.reads
    stored_is = (found honest).same ∙ ap (λ (c : Image). pages (journal_of a) c) was_read ∙ ap (λ (J : ℕ). pages J old.reads) layout.0

    rows_at : (m : KeyMap) → HoldsRows a m → HasSound rows m
    rows_at m holds =
        let is = (sound honest).sound m (both_same (λ n P. Holds n P (root_in P) (free_in P) m) layout.1 stored_is holds) in
        (is.desk, record { version = is.version; read = is.read; whole = is.whole; belong = is.belong; holdings = is.holdings })

  pub holds_at : (count : ℕ) → count ≡ count_of a → HoldsOwned a (record { pages = count; rows = rows })
  holds_at count is = record { sound = record { pages = is; sound = λ honest m holds. rows_at honest m holds }; owned = λ honest. both_same AreOwned (sym (layout honest).1) (sym (stored_is honest)) (sound honest).owned }
