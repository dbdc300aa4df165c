-- What an opening finds.
use Rattle.{std.proofs.Common.{rules, ◌≡◌, Bool, true, false, refl, sym, subst, ◌∙◌, arith}, desk_migration.specs.declared.migration.Migration.Migration}
use Rattle.{desk_migration.specs.Openings.{AreOfVersion, AreRead, IsFound, IsRefused, JudgeErr, KeepsOne, LeavesNew}, desk_model.specs.claim.Desk.Desk}
use Rattle.{desk_migration.specs.claim.Migrating.{disk_of, has_ended, is_halted, sectors_of, HasRows}, desk_store_pages.specs.Errors.{missing, page_refusal, row_refusal}}
use Rattle.{desk_store_opening.specs.Opening.{HasVersion, IsReadFrom, OpenErr as ReadDeskErr}, desk_store_pages.specs.{Reading.ReadErr, claim.Desks.{InPagesOf, OpensDeskOf}}}
use Rattle.desk_store_pages.specs.{claim.Openings.{AllVersions, OpensOneAs}, declared.error.StoreError.{StoreError, TheVariants.{NotAStore, DeviceFault, Memory, AlreadyNew}}}
use Rattle.{desk_store_rows.specs.{Keys.parts_prefix, claim.{Keys.version, Rows.{KeyMap, row_in}, Tidy.version_row}}, page_btree.specs.gets.claim.Map.InTxn}
use Rattle.{page_btree.specs.gets.declared.error.TreeError.TreeError, page_store.specs.{Transactions.OpenErr, declared.{pages.Pages.Pages, txn.Txn.Txn}}}
use Rattle.page_store.specs.{claim.Transactions.{stored, disk_in, count_of, journal_of, has_halted, IsQuiet, IsKept, Passed}, gate_journal.declared.error.PageError.PageError}
use Rattle.{page_store.specs.gate_journal.Recovery.{AllStores, HasRoom, Found, ReadsAs}, sector_device.specs.{claim.{Disk.Disk, Moments.LeavesOnly}, declared.SectorDevice.Ghosts}}
use Rattle.{desk_migration.proofs.PartRows.begins_held, desk_store_opening.proofs.WholeDesks.unread_unopened, desk_store_pages.proofs.Kept.opens_now}
use Rattle.{desk_store_pages.proofs.Found.{found_after, found_desk, open_versions, page_stores_of, pages_left, stores_of}, sector_device.proofs.Moments.leaves_now}
use Rattle.page_store.proofs.Stops.{leaves_here, leaves_quiet, quiet_more}
use Rattle.page_store.specs.gate_journal.declared.error.PageError.TheVariants as page
use Rattle.page_btree.specs.gets.declared.error.TreeError.TheVariants as tree
use Rattle.desk_store_opening.proofs.chunk_table.Committing.{IsBegun, both, quiet_rows}

-- ---- pages that aren't opened
pub page_refused : {D : Type 0} (h : Ghosts D) (old new : D) (e : PageError) → OpenErr h old new e → IsRefused (h.disk old) (h.disk new) (page_refusal e)
page_refused h old new page.NotAStore why = λ honest all. why honest (page_stores_of (h.disk old) all)
page_refused h old new page.DeviceFault why = why
page_refused h old new page.Memory why = λ honest. let it = why honest in (it.0, it.1.0, it.1.1)
page_refused h old new _ why = absurd why

-- none of them is of the new version
pub page_not_new : (old new : Disk) (e : PageError) → new.is_honest → page_refusal e ≡ AlreadyNew → LeavesNew old new
page_not_new old new page.NotAStore honest is = absurd (cc)
page_not_new old new _ honest is = absurd (cc)

module _ {D : Type 0} {g : Ghosts D} where
  -- ---- whether pages hold a desk in the old version
  pub of_version : (new : Bool) (t : Txn) (a b c : Pages D g) → IsBegun a t → Passed a b → IsQuiet b c → ((disk_in c).is_honest → (m : KeyMap) → InTxn t (stored b) m → row_in m version ≡ version_row new) → (disk_in c).is_honest → AreOfVersion new (count_of a) (stored a)
  of_version new t a b c start ab quiet told honest m holds = search (quiet.honest, ab.quiet.same, start.reads, ab.quiet.honest)

  pub read_from : (t : Txn) (a b : Pages D g) (d : Desk) → IsBegun a t → IsQuiet a b → ((disk_in b).is_honest → (m : KeyMap) → InTxn t (stored a) m → IsReadFrom m d) → (disk_in b).is_honest → AreRead (count_of a) (stored a)
  read_from t a b d start quiet read honest m holds = (d, read honest m (start.reads (quiet.honest honest) m holds))

  missing_told : (a b : Pages D g) (halted : Bool) → halted ≡ has_halted b → (has_halted b ≡ false → JudgeErr a b NotAStore) → JudgeErr a b (missing halted)
  missing_told a b true is none = sym is
  missing_told a b false is none = none (sym is)

  pub not_read : (t : Txn) (a b : Pages D g) (e : TreeError) (halted : Bool) → halted ≡ has_halted b → IsBegun a t → IsQuiet a b → ReadDeskErr t a b e → JudgeErr a b (row_refusal e halted)
  not_read t a b tree.DeviceFault halted is start quiet why = missing_told a b halted is (λ works. both (has_halted b) why.halted works)
  not_read t a b tree.NotAStore halted is start quiet why = missing_told a b halted is (λ works honest new d holds.
      why honest new d (record { m = holds.m; holds = start.reads (quiet.honest honest) holds.m holds.holds; is = holds.is }))
  not_read t a b tree.Memory true is start quiet why = sym is
  not_read t a b tree.Memory false is start quiet why = tt
  not_read t a b _ halted is start quiet why = search (rules, both)

  pub version_not_read : (t : Txn) (a b c : Pages D g) (e : TreeError) (halted : Bool) → halted ≡ has_halted c → IsBegun a t → Passed a b → IsQuiet b c → ReadErr HasVersion t b c e → JudgeErr a c (row_refusal e halted)
  version_not_read t a b c e halted is start ab quiet why =
      not_read t a c e halted is start (quiet_more a b c ab.quiet quiet) (unread_unopened HasVersion t a b c ab quiet (λ honest m x holds of. (of.tidy.new, of.tidy.holdings.told)) e why)

  -- ---- pages that were found
  -- a stop leaves no more of what they were found on where they were read at most
  pub moment_quiet : (old : Disk) (a b : Pages D g) → IsQuiet a b → ((disk_in a).is_honest → AllStores old → LeavesOnly (ReadsAs old) old (disk_in a)) → (disk_in b).is_honest → AllVersions old → LeavesOnly (OpensOneAs old) old (disk_in b)
  moment_quiet old a b quiet left honest all = leaves_quiet a b quiet honest (OpensOneAs old) old (open_versions old (disk_in a) all (left (quiet.honest honest) (stores_of old all)))

  -- they hold a desk in the version that their rows tell
  version_of : (new told : Bool) (ps : Pages D g) (d : Desk) → InPagesOf new ps d → AreOfVersion told (count_of ps) (stored ps) → new ≡ told
  version_of new told ps d holds are = sym holds.is.version ∙ one_version holds.is.tidy.new told (sym holds.is.tidy.holdings.told ∙ are holds.m holds.holds)
    where
      one_version : (a b : Bool) → version_row a ≡ version_row b → a ≡ b
      one_version true false same = cc
      one_version false true same = cc
      one_version _ _ same = refl

  version_after : (new : Bool) (a b : Pages D g) → IsQuiet a b → (disk_in b).is_honest → AreOfVersion new (count_of a) (stored a) → AreOfVersion new (count_of b) (stored b)
  version_after new a b quiet honest are = search rules

  read_after : (a b : Pages D g) → IsQuiet a b → (disk_in b).is_honest → AreRead (count_of a) (stored a) → AreRead (count_of b) (stored b)
  read_after a b quiet honest are = rw (quiet.same honest, quiet.count) are

  module _ (old : Disk) (a : Pages D g) (found : (disk_in a).is_honest → Found (journal_of a) (count_of a) old (disk_in a)) where
    pub is_found : (x : Migration D g) → IsQuiet a x.pages → ((disk_of x).is_honest → AreOfVersion false (count_of a) (stored a)) → ((disk_of x).is_honest → AreRead (count_of a) (stored a)) → (disk_of x).is_honest → IsFound old x
    is_found x quiet are read honest = search (found_after, version_after, read_after)

    module _ (room : HasRoom old.sectors (journal_of a) (count_of a)) where
      -- what is opened keeps its desk
      pub opened_keeps : (x : Migration D g) → ((disk_in a).is_honest → IsKept a) → IsQuiet a x.pages → is_halted x ≡ false → x.from ≡ parts_prefix → has_ended x ≡ false → ((disk_of x).is_honest → AreOfVersion false (count_of a) (stored a)) → AllVersions old → (disk_of x).is_honest → KeepsOne old x
      opened_keeps x kept quiet works from fresh are all honest =
          let it = found (quiet.honest honest) in
          let is = all it.was it.left in let new = is.0.0 in let d = is.0.1 in let opens = is.1 in
          let is_old : new ≡ false = version_of new false a d (found_desk old a it room (new, d) opens) (are honest) in
          let opens_old : OpensDeskOf false old.sectors d it.was = subst (λ (b : Bool). OpensDeskOf b old.sectors d it.was) is_old opens in
          let was : InPagesOf false a d = found_desk old a it room (false, d) opens_old in
          let here = quiet_rows a x.pages quiet honest was.m was.holds in
          let rows : HasRows x d was.m = record { holds = here; is = was.is; done = rw from (begins_held was.m); all = λ ended. both (has_ended x) ended fresh } in
          let opens_so = λ (honest : (disk_of x).is_honest). opens_now {new = false} x.pages works honest (sectors_of x) d refl (record { m = was.m; holds = here; is = was.is }) in
          (d, (record { holds = λ off is_honest. (was.m, rows); left = opens_so }, record { was = it.was; left = it.left; opens = opens_old }))

      pub judged : (b : Pages D g) (e : StoreError) → has_halted a ≡ false → ((disk_in a).is_honest → (disk_in a).faults ≡ old.faults) → IsQuiet a b → JudgeErr a b e → IsRefused old (disk_in b) e
      judged b NotAStore working passed quiet why = λ honest all.
          let it = found (quiet.honest honest) in
          let is = all it.was it.left in
          why honest is.0.0 is.0.1 (found_desk old a it room is.0 is.1)
      judged b DeviceFault working passed quiet why = λ honest. let rises = quiet.rose working why honest in let same = passed (quiet.honest honest) in omega (arith, rises, same)
      judged b Memory working passed quiet why = λ honest. pages_left old a b found quiet honest
      judged b AlreadyNew working passed quiet why = λ honest. (
        record { J = journal_of b; n = count_of b; found = found_after old a b found quiet honest; version = version_after true a b quiet honest (why honest).0; read = read_after a b quiet honest (why honest).1 },
        λ all.
            let it = found (quiet.honest honest) in
            let (d, opens) = all it.was it.left in
            both false (version_of false true a d (found_desk old a it room (false, d) opens) (why honest).0) refl,
      )
      judged b _ working passed quiet why = absurd why

      -- a stop after such a refusal leaves the new version
      pub left_new : (b : Pages D g) (e : StoreError) → has_halted a ≡ false → IsQuiet a b → JudgeErr a b e → (disk_in b).is_honest → e ≡ AlreadyNew → LeavesNew old (disk_in b)
      left_new b e working quiet why = λ honest is all c leaves.
          let told = subst (λ (e : StoreError). JudgeErr a b e) is why honest in
          let before = quiet.honest honest in
          let it = found before in
          let was = all it.was it.left in let new = was.0.0 in let d = was.0.1 in let opens = was.1 in
          let is_new : new ≡ true = version_of new true a d (found_desk old a it room (new, d) opens) told.0 in
          let opens_new : OpensDeskOf true old.sectors d it.was = subst (λ (b : Bool). OpensDeskOf b old.sectors d it.was) is_new opens in
          let holds : InPagesOf true a d = found_desk old a it room (true, d) opens_new in
          let still = leaves_quiet a b quiet honest (OpensDeskOf true old.sectors d) (disk_in a) (leaves_here (OpensDeskOf true old.sectors d) (disk_in a) (λ i left. opens_now {new = true} a working before old.sectors d room.whole holds i left)) in
          record { desk = d; one = record { was = it.was; left = it.left; opens = opens_new }; opens = leaves_now (OpensDeskOf true old.sectors d) (disk_in a) (disk_in b) still c leaves }
