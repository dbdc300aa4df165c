-- Rows that aren't read, where a device failed.
use Rattle.std.{specs.Prelude.{◌<◌, Result, Ok, Err, OnErr, IfErr}, proofs.Common.{rules, ◌≡◌, ◌≤◌, Bool, true, false, inl, inr, refl, sym, subst, ◌∙◌, arith}}
use Rattle.{desk_store_pages.specs.{Errors.page_refusal, Openings.LeavesOneOf, Reading.ReadErr, claim.Openings.LeavesOneAs}, desk_store_rows.specs.claim.Rows.KeyMap}
use Rattle.{inspect_command.specs.{Rows.{fault_of_rows, AreUnread, IsUncounted}, declared.rows.Rows.Rows}, page_btree.specs.gets.claim.Map.InTxn}
use Rattle.{page_btree.specs.gets.declared.error.TreeError.TreeError, page_store.specs.{Transactions.OpenErr, declared.{pages.Pages.Pages, txn.Txn.Txn}}}
use Rattle.page_store.specs.{claim.Transactions.{stored, disk_in, device_in, count_of, journal_of, has_halted, IsQuiet}, gate_journal.Recovery.{HasRoom, Found, AllStores, ReadsAs}}
use Rattle.{page_store.specs.gate_journal.declared.error.PageError.PageError, sector_device.specs.{claim.{Disk.Disk, Moments.LeavesOnly}, declared.SectorDevice.Ghosts}}
use Rattle.{store_command.specs.{Faults.fault_of_store, declared.fault.StoreFault.{StoreFault, TheVariants.{NotAStore, DeviceFault}}}, store_verification.specs.rows.Strays.IsAny}
use Rattle.desk_store_pages.proofs.Found.{all_versions, stores_of, page_stores_of, open_leaves, open_versions, found_desk}
use Rattle.page_store.specs.gate_journal.declared.error.PageError.TheVariants as page
use Rattle.page_btree.specs.gets.declared.error.TreeError.TheVariants as tree

-- an opening left one of the desks that were there
pub opened_leaves : (old new : Disk) → (new.is_honest → AllStores old → LeavesOnly (ReadsAs old) old new) → LeavesOneOf old new
opened_leaves old new leaves honest all = open_leaves old new all (leaves honest (stores_of old (all_versions old all)))

pub opened_versions : (old new : Disk) → (new.is_honest → AllStores old → LeavesOnly (ReadsAs old) old new) → LeavesOneAs old new
opened_versions old new leaves honest all = open_versions old new all (leaves honest (stores_of old all))

module _ {D : Type 0} {g : Ghosts D} where
  -- pages that were opened and only read met no fewer faults
  pub no_less : (a b : Pages D g) (old : Disk) → has_halted a ≡ false → ((disk_in a).is_honest → (disk_in a).faults ≡ old.faults) → IsQuiet a b → (disk_in b).is_honest → old.faults ≤ (disk_in b).faults
  no_less a b old working passed quiet honest = let same = passed (quiet.honest honest) in let more = (quiet.moves honest working).faults in omega (arith, same, more)

  pub unread : (t : Txn) (a b : Pages D g) (e : TreeError) → ReadErr IsAny t a b e → has_halted a ≡ false → (disk_in b).is_honest → (m : KeyMap) → InTxn t (stored a) m → (disk_in a).faults < (disk_in b).faults
  unread t a b tree.DeviceFault why working honest m holds = why.rose honest
  unread t a b tree.NotAStore why working honest m holds = absurd (why honest m holds tt)
  unread t a b tree.Halted why working honest m holds = let clash : true ≡ false = sym why ∙ working in absurd (cc)
  unread t a b _ why working honest m holds = absurd why

module _ {D : Type 0} (g : Ghosts D) where
  pub page_uncounted : (device left : D) (e : PageError) → OpenErr g device left e → IsUncounted g device left (fault_of_store (page_refusal e))
  page_uncounted device left page.Memory why = inl refl
  page_uncounted device left page.DeviceFault why = inr (inl (refl, why))
  page_uncounted device left page.NotAStore why = inr (inr (refl, λ honest all. why honest (page_stores_of (g.disk device) (all_versions (g.disk device) all))))
  page_uncounted device left _ why = absurd why

  failed_so : (device : D) (a b : Pages D g) (fault : StoreFault) (halted : Bool) → has_halted a ≡ false → has_halted b ≡ halted → ((disk_in a).is_honest → Found (journal_of a) (count_of a) (g.disk device) (disk_in a)) → HasRoom (g.disk device).sectors (journal_of a) (count_of a) → ((disk_in a).is_honest → (disk_in a).faults ≡ (g.disk device).faults) → IsQuiet a b
      → fault ≡ fault_of_rows halted → AreUnread a b → IsUncounted g device (device_in b) fault
  failed_so device a b fault true working on found room passed quiet is why = search rules
  failed_so device a b fault false working off found room passed quiet is why = inr (inr (
    is,
    λ honest all.
        let here = found (quiet.honest honest) in
        let desk = all here.was here.left in
        let holds = found_desk (g.disk device) a here room (true, desk.0) desk.1 in
        omega (arith, why honest holds.m holds.holds, quiet.calm off honest),
  ))

  pub rows_uncounted : (device : D) (a b : Pages D g) (left : D) (result : Result Rows StoreFault) → has_halted a ≡ false → left ≡ device_in b → ((disk_in a).is_honest → Found (journal_of a) (count_of a) (g.disk device) (disk_in a)) → HasRoom (g.disk device).sectors (journal_of a) (count_of a) → ((disk_in a).is_honest → (disk_in a).faults ≡ (g.disk device).faults) → IsQuiet a b
      → IfErr result (λ fault. fault ≡ fault_of_rows (has_halted b)) → OnErr result (AreUnread a b) → IfErr result (λ fault. IsUncounted g device left fault)
  rows_uncounted device a b left (Ok rows) working back found room passed quiet is why = tt
  rows_uncounted device a b left (Err fault) working back found room passed quiet is why = subst (λ (d : D). IsUncounted g device d fault) (sym back) (failed_so device a b fault (has_halted b) working refl found room passed quiet is why)
