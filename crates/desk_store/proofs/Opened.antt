-- What an opening finds.
use Rattle.{std.{specs.Prelude.◌⊎◌, proofs.Common.{rules, ◌≡◌, ℕ, Bool, true, false, inl, ⊎_elim, refl, sym, ap, subst, ◌∙◌, arith}}, desk_model.specs.claim.Desk.Desk}
use Rattle.desk_store.specs.{Finding.{FindErr, OldErr}, Openings.{DiskRefused, IsOldStore, IsFound, OpenRefused}, claim.Clerks.{desk_of, disk_of, pages_of, sectors_of, Keeps}}
use Rattle.{desk_store.specs.{claim.Keeping.{IsLeft, OpensOneMore}, declared.clerk.Clerk.Clerk}, desk_store_opening.specs.Held.{AreOld, GoesOn, HeldErr, IsHeld}}
use Rattle.desk_store_opening.specs.{Opening.{HasVersion, IsReadFrom, OpenErr as ReadErr}, plan_revisions.desk_store_pages.Reading.ReadErr as RowErr}
use Rattle.desk_store_pages.specs.{Desks.InPagesAs, Errors.{missing, page_refusal, row_refusal}, Openings.{AllDesks, OpensOneOf}, claim.Openings.{AllVersions, IsOneOf, OpensOneAs}}
use Rattle.desk_store_pages.specs.{claim.Desks.{HoldsDeskOf, IsMapOf, InPagesOf, InPages, OpensDesk, OpensDeskOf}, declared.error.StoreError.StoreError}
use Rattle.{desk_store_pages.specs.declared.error.StoreError.TheVariants.{NotAStore, DeviceFault, Memory, OldVersion}, desk_store_rows.specs.claim.Keys.{version, in_four}}
use Rattle.{desk_store_rows.specs.claim.{Rows.{KeyMap, row_in, Has, Lacks}, Tidy.version_row}, page_btree.specs.gets.claim.Map.{InPages as HasRows, InTxn as TxnHas}}
use Rattle.{page_btree.specs.gets.declared.error.TreeError.TreeError, page_store.specs.{Transactions.OpenErr, claim.Chain.{root_in, free_in}, declared.pages.Pages.Pages}}
use Rattle.page_store.specs.{claim.Transactions.{stored, disk_in, count_of, journal_of, has_halted, IsQuiet, IsKept, Passed}, declared.txn.Txn.Txn, gate_journal.claim.Store.pages}
use Rattle.{page_store.specs.gate_journal.{Recovery.{AllStores, HasRoom, Found, ReadsAs}, declared.error.PageError.PageError}, sector_device.specs.claim.Disk.{Disk, Image}}
use Rattle.{sector_device.specs.{claim.Moments.LeavesOnly, declared.SectorDevice.Ghosts}, desk_store.proofs.Kept.kept_opens, desk_store_opening.proofs.WholeDesks.unread_unopened}
use Rattle.{desk_store.proofs.Prepared.{IsBegun, begun_reads, begun_rows, still_held}, desk_store_rows.proofs.OneGeography.no_value}
use Rattle.desk_store_pages.proofs.Found.{all_versions, stores_of, open_leaves, open_versions, page_stores_of, found_desk, found_after, pages_left, rows_before}
use Rattle.page_store.proofs.Stops.{kept_quiet, leaves_quiet, passed_none}
use Rattle.desk_store_opening.proofs.chunk_table.Committing.{both}
use Rattle.page_store.specs.gate_journal.declared.error.PageError.TheVariants as page
use Rattle.page_btree.specs.gets.declared.error.TreeError.TheVariants as tree

pub page_refused : {D : Type 0} (h : Ghosts D) (old new : D) (e : PageError) → OpenErr h old new e → OpenRefused h old new (page_refusal e)
page_refused h old new page.NotAStore why = λ honest all. why honest (page_stores_of (h.disk old) all)
page_refused h old new page.DeviceFault why = why
page_refused h old new page.Memory why = λ honest. let it = why honest in (it.0, it.1.0, it.1.1)
page_refused h old new _ why = absurd why

opens_left : (halted : Bool) (sectors : ℕ) (d : Desk) (c : Image) → IsLeft halted sectors d c → (e : Desk) × OpensDesk sectors e c
opens_left halted sectors d c left = ⊎_elim (λ opens. (d, opens)) (λ (more : OpensOneMore halted sectors d c). (more.next, more.opens)) left

-- ---- versions
-- rows that tell the new version are of it, and those of it tell it
pub tells_new : (new : Bool) (m : KeyMap) (d : Desk) → IsMapOf new m d → Has m version (in_four 2) → new ≡ true
tells_new new m d is has = by new (is.tidy.holdings.told ∙ ap version_row is.version)
  where
    by : (b : Bool) → row_in m version ≡ version_row b → b ≡ true
    by true told = refl
    by false told = absurd (no_value (in_four 2) (sym has ∙ told))

pub new_tells : (m : KeyMap) (d : Desk) → IsMapOf true m d → Has m version (in_four 2)
new_tells m d is = is.tidy.holdings.told ∙ ap version_row is.version

module _ {D : Type 0} {g : Ghosts D} where
  -- a stop leaves no more of what they were found on where they were read at most
  module _ (old : Disk) (a b : Pages D g) (quiet : IsQuiet a b) (left : (disk_in a).is_honest → AllStores old → LeavesOnly (ReadsAs old) old (disk_in a)) (honest : (disk_in b).is_honest) where
    pub moment_quiet : AllDesks old → LeavesOnly (OpensOneOf old) old (disk_in b)
    moment_quiet all = leaves_quiet a b quiet honest (OpensOneOf old) old (open_leaves old (disk_in a) all (left (quiet.honest honest) (stores_of old (all_versions old all))))

    pub version_quiet : AllVersions old → LeavesOnly (OpensOneAs old) old (disk_in b)
    version_quiet all = leaves_quiet a b quiet honest (OpensOneAs old) old (open_versions old (disk_in a) all (left (quiet.honest honest) (stores_of old all)))

  -- a transaction that was begun reads the rows that are held
  pub rows_begun : (a b : Pages D g) (t : Txn) (m : KeyMap) → IsBegun a t → IsQuiet a b → (disk_in b).is_honest → HasRows a m → TxnHas t (stored a) m
  rows_begun a b t m begun quiet honest holds = begun_rows a t m begun (quiet.honest honest) holds

  -- what is opened keeps it
  module _ (old : Disk) (a : Pages D g) (x : Clerk D g) (all : AllVersions old) (room : HasRoom old.sectors (journal_of a) (count_of a)) (found : (disk_in a).is_honest → Found (journal_of a) (count_of a) old (disk_in a))
      (kept : (disk_in a).is_honest → IsKept a) (quiet : IsQuiet a (pages_of x)) (read : (disk_of x).is_honest → (y : Bool × Desk) → InPagesAs a y → desk_of x ≡ y.1)
      (told : (disk_of x).is_honest → (m : KeyMap) → HasRows a m → Has m version (in_four 2)) (works : x.halted ≡ false) where
    abbrev found_as : (disk_of x).is_honest → Bool × Desk
    found_as honest = let was = found (quiet.honest honest) in (all was.was was.left).0

    found_holds : (honest : (disk_of x).is_honest) → InPagesAs a (found_as honest)
    found_holds honest = let it = found (quiet.honest honest) in found_desk old a it room (found_as honest) (all it.was it.left).1

    is_new : (honest : (disk_of x).is_honest) → (found_as honest).0 ≡ true
    is_new honest = let holds = found_holds honest in tells_new (found_as honest).0 holds.m (found_as honest).1 holds.is (told honest holds.m holds.holds)

    shown_is : (honest : (disk_of x).is_honest) → desk_of x ≡ (found_as honest).1
    shown_is honest = read honest (found_as honest) (found_holds honest)

    shown_holds : (disk_of x).is_honest → InPages (pages_of x) (desk_of x)
    shown_holds honest =
        let there : InPages a (found_as honest).1 = subst (λ (b : Bool). InPagesOf b a (found_as honest).1) (is_new honest) (found_holds honest) in
        let now : InPages (pages_of x) (found_as honest).1 = search (rules, quiet.same honest) in
        subst (λ (d : Desk). InPages (pages_of x) d) (sym (shown_is honest)) now

    opened_one : (disk_of x).is_honest → IsOneOf old (desk_of x)
    opened_one honest =
        let it = found (quiet.honest honest) in
        let was : OpensDesk old.sectors (found_as honest).1 it.was = subst (λ (b : Bool). OpensDeskOf b old.sectors (found_as honest).1 it.was) (is_new honest) (all it.was it.left).1 in
        let opens : OpensDesk old.sectors (desk_of x) it.was = subst (λ (d : Desk). OpensDesk old.sectors d it.was) (sym (shown_is honest)) was in
        record { was = it.was; left = it.left; opens = opens }

    pub opened_keeps : Keeps x × ((disk_of x).is_honest → IsOneOf old (desk_of x))
    opened_keeps = (
      record {
        holds = λ off honest. shown_holds honest;
        left = λ honest c leaves. inl (kept_opens (pages_of x) (desk_of x) (x.working works) honest (kept_quiet a (pages_of x) quiet honest (kept (quiet.honest honest))) (shown_holds honest) c leaves);
      },
      opened_one,
    )

  -- a clerk whose pages were found, and read
  pub is_found : (old : Disk) (a : Pages D g) (x : Clerk D g) → ((disk_in a).is_honest → Found (journal_of a) (count_of a) old (disk_in a)) → IsQuiet a (pages_of x) → ((disk_of x).is_honest → (y : Bool × Desk) → InPagesAs a y → desk_of x ≡ y.1) → ((disk_of x).is_honest → (m : KeyMap) → HasRows a m → IsReadFrom m (desk_of x))
      → ((disk_of x).is_honest → (m : KeyMap) → HasRows a m → Has m version (in_four 2)) → (disk_of x).is_honest → IsFound old x
  is_found old a x found quiet read rows told honest = record {
    pages = found_after old a (pages_of x) found quiet honest;
    shown = λ d holds. read honest (true, d) (still_held a (pages_of x) d quiet honest holds);
    read = λ m holds. rows honest m (rows_before a (pages_of x) m quiet honest holds);
    version = λ m holds. told honest m (rows_before a (pages_of x) m quiet honest holds);
  }

  -- the rows of pages that were found, which tell no version
  old_left : (old : Disk) (a b : Pages D g) → HasRoom old.sectors (journal_of a) (count_of a) → ((disk_in a).is_honest → Found (journal_of a) (count_of a) old (disk_in a)) → IsQuiet a b
      → ((disk_in b).is_honest → AreOld (count_of a) (stored a)) → (disk_in b).is_honest → IsOldStore old (disk_in b) × (AllDesks old → ⊥)
  old_left old a b room found quiet is_old honest =
      let it = found_after old a b found quiet honest in
      let counted : AreOld (count_of b) (stored a) = subst (λ (n : ℕ). AreOld n (stored a)) (sym quiet.count) (is_old honest) in
      let here : AreOld (count_of b) (stored b) = subst (AreOld (count_of b)) (sym (quiet.same honest)) counted in (
        record { J = journal_of b; n = count_of b; found = it; rows = subst (AreOld (count_of b)) it.same here },
        λ all.
            let was = found (quiet.honest honest) in
            let is = all was.was was.left in
            let holds : InPages a is.0 = found_desk old a was room (true, is.0) is.1 in
            no_value (in_four 2) (sym (new_tells holds.m is.0 holds.is) ∙ (is_old honest).none holds.m holds.holds),
      )

  pub find_refused : (device : D) (a b : Pages D g) (e : StoreError) → HasRoom (g.disk device).sectors (journal_of a) (count_of a) → ((disk_in a).is_honest → Found (journal_of a) (count_of a) (g.disk device) (disk_in a)) → has_halted a ≡ false
      → ((disk_in a).is_honest → (disk_in a).faults ≡ (g.disk device).faults) → IsQuiet a b → FindErr a b e → DiskRefused (g.disk device) (disk_in b) e
  find_refused device a b NotAStore room found working passed quiet why = λ honest all. let was = found (quiet.honest honest) in let is = all was.was was.left in why honest is.0 (found_desk (g.disk device) a was room is.0 is.1)
  find_refused device a b DeviceFault room found working passed quiet why = λ honest. let rises = quiet.rose working why honest in let same = passed (quiet.honest honest) in omega (arith, rises, same)
  find_refused device a b Memory room found working passed quiet why = λ honest. pages_left (g.disk device) a b found quiet honest
  find_refused device a b OldVersion room found working passed quiet why = old_left (g.disk device) a b room found quiet why
  find_refused device a b _ room found working passed quiet why = absurd why

  -- ---- why none is read back
  missing_found : (a b : Pages D g) (halted : Bool) → halted ≡ has_halted b → (has_halted b ≡ false → FindErr a b NotAStore) → FindErr a b (missing halted)
  missing_found a b true is none = sym is
  missing_found a b false is none = none (sym is)

  -- no desk is, or the device failed
  pub none_read : (a b : Pages D g) (t : Txn) (e : TreeError) (halted : Bool) → IsBegun a t → IsQuiet a b → halted ≡ has_halted b → has_halted a ≡ false → ReadErr t a b e → FindErr a b (row_refusal e halted)
  none_read a b t tree.DeviceFault halted begun quiet is working why = missing_found a b halted is (λ works. both (has_halted b) why.halted works)
  none_read a b t tree.NotAStore halted begun quiet is working why = missing_found a b halted is (λ works honest x holds. why honest x.0 x.1 (begun_reads a t x.1 begun (quiet.honest honest) holds))
  none_read a b t tree.Memory true begun quiet is working why = sym is
  none_read a b t tree.Memory false begun quiet is working why = tt
  none_read a b t _ halted begun quiet is working why = search (rules, both)

  -- why no rows are found
  pub none_held : (a b : Pages D g) (e : TreeError) (halted : Bool) → halted ≡ has_halted b → has_halted a ≡ false → HeldErr a b e → OldErr a b (row_refusal e halted)
  none_held a b e true is working why = sym is
  none_held a b tree.NotAStore false is working why = λ honest x holds. why honest (holds.m, holds.holds)
  none_held a b tree.Memory false is working why = tt
  none_held a b tree.DeviceFault false is working why = absurd (both (has_halted b) why.halted (sym is))
  none_held a b tree.Halted false is working why = absurd (both (has_halted a) why working)
  none_held a b _ false is working why = absurd why

  -- nor what is told after it of pages whose rows tell no version
  pub old_refused : (a b c : Pages D g) (t : Txn) (e : StoreError) → IsBegun a t → Passed a b → IsQuiet b c → ((disk_in b).is_honest → (m : KeyMap) → TxnHas t (stored a) m → Lacks m version) → OldErr b c e → FindErr a c e
  old_refused a b c t OldVersion begun passed quiet none why = λ honest.
      let was = quiet.honest honest in
      let counted : IsHeld (count_of a) (stored b) ⊎ GoesOn (stored b) = subst (λ (n : ℕ). IsHeld n (stored b) ⊎ GoesOn (stored b)) passed.quiet.count (why honest) in
      record {
        there = subst (λ (P : Image). IsHeld (count_of a) P ⊎ GoesOn P) (passed.quiet.same was) counted;
        none = λ m holds. none was m (rows_begun a b t m begun passed.quiet was holds);
      }
  old_refused a b c t NotAStore begun passed quiet none why = λ honest x holds.
      let was = quiet.honest honest in
      let counted = subst (λ (n : ℕ). HoldsDeskOf x.0 n (stored a) (root_in (stored a)) (free_in (stored a)) x.1) (sym passed.quiet.count) holds in
      why honest x (subst (λ (P : Image). HoldsDeskOf x.0 (count_of b) P (root_in P) (free_in P) x.1) (sym (passed.quiet.same was)) counted)
  old_refused a b c t DeviceFault begun passed quiet none why = why
  old_refused a b c t Memory begun passed quiet none why = tt
  old_refused a b c t _ begun passed quiet none why = absurd why

  -- nor is a version told
  pub version_unread : (a b : Pages D g) (t : Txn) (e : TreeError) (halted : Bool) → IsBegun a t → IsQuiet a b → halted ≡ has_halted b → has_halted a ≡ false → RowErr HasVersion t a b e → FindErr a b (row_refusal e halted)
  version_unread a b t e halted begun quiet is working why =
      none_read a b t e halted begun quiet is working (unread_unopened HasVersion t a a b (passed_none a) quiet (λ honest m x holds of. (of.tidy.new, of.tidy.holdings.told)) e why)

  -- ---- what is kept opens again
  pub reopened : (x : Clerk D g) → Keeps x → (disk_of x).is_honest → AllDesks (disk_of x)
  reopened x keeps honest c leaves = subst (λ (s : ℕ). (e : Desk) × OpensDesk s e c) (pages_of x).journal.room.whole (opens_left x.halted (sectors_of x) (desk_of x) c (keeps.left honest c leaves))
