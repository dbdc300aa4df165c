-- What an opening finds in the pages.
use Rattle.{std.proofs.Common.{rules, ◌≡◌, ◌≢◌, ℕ, false, refl, sym, subst, ◌∙◌, arith}, gate_journal.specs.{Recovery.{HasRoom, Found}, claim.Store.{Opens, pages}}}
use Rattle.gate_journal.specs.{claim.Contents.{content, disk_of, device_of, page_count, is_halted}, declared.error.PageError.{PageError, TheVariants.DeviceFault}}
use Rattle.{gate_journal.specs.declared.journal.Journal.Journal, page_store.specs.{Openings.{AllPageStores, MetaErr}, Transactions.{OpenErr, HasBadPages}, claim.Chain.IsPages}}
use Rattle.{sector_device.specs.{claim.Disk.{Disk, Image, Nowhere, Touches}, declared.SectorDevice.Ghosts}, gate_journal.proofs.Headers.same_journal}
use Rattle.page_store.proofs.Stops.{kept_still}

-- where each image is a store with pages, so is what was found
pub found_pages : (a b : Disk) (J n : ℕ) → Found J n a b → HasRoom a.sectors J n → AllPageStores a → IsPages n (pages J b.reads)
found_pages a b J n found room all =
    let is = all found.was found.left in
    let journal : is.J ≡ J = same_journal is.J is.n J n (omega arith) (omega arith) (sym is.store.header ∙ found.header) in
    let count : is.n ≡ n = omega (arith, journal, is.whole, room.whole) in
    rw (found.same, ← journal, ← count) is.pages

-- the pages that were found are no store's
pub bad_pages : (a b d : Disk) (J K n : ℕ) → Found J n a b → K ≡ J → pages K d.reads ≡ pages J b.reads → ((c : Image) → b.leaves c → Opens J n (pages J b.reads) c) → Touches Nowhere b d
    → (IsPages n (pages J b.reads) → ⊥) → HasBadPages a d
bad_pages a b d J K n found journal same kept still unsound =
    let here : pages J d.reads ≡ pages J b.reads = subst (λ (k : ℕ). pages k d.reads ≡ pages J b.reads) journal same in
    search (rules, kept_still J n J n b d (pages J b.reads) (pages J d.reads) refl refl here kept still)

-- why an opening failed after the journal was opened; where no fault is told, the device's faults are those of before
pub opened_err : {D : Type 0} (g : Ghosts D) (a d : D) (old new : Journal D g) (e : PageError) → d ≡ device_of new → is_halted old ≡ false
    → ((disk_of new).is_honest → (disk_of old).faults ≡ (g.disk a).faults)
    → ((disk_of new).is_honest → AllPageStores (g.disk a) → IsPages (page_count old) (content old)) → MetaErr old new e
    → OpenErr g a d e × ((g.disk d).is_honest → e ≢ DeviceFault → (g.disk d).faults ≡ (g.disk a).faults)
opened_err g a d old new e is working passed sound why = search (arith, passed, sound)
