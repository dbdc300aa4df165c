-- Desks of a store that an opening finds.
use Rattle.{std.proofs.Common.{rules, ◌≡◌, ◌+◌, ℕ, Bool, true, sym, ap, subst, ◌∙◌, arith}, desk_model.specs.claim.Desk.Desk, desk_store_pages.specs.Desks.InPagesAs}
use Rattle.desk_store_pages.specs.{Openings.{AllDesks, OpensOneOf, HasPages, StillStands}, claim.{Desks.{OpensAs, OpensDeskOf}, Openings.{AllVersions, OpensOneAs}}}
use Rattle.{desk_store_rows.specs.claim.Rows.KeyMap, page_btree.specs.gets.claim.Map.InPages as HasRows, page_store.specs.{Openings.AllPageStores, declared.pages.Pages.Pages}}
use Rattle.page_store.specs.{claim.Transactions.{stored, disk_in, count_of, journal_of, IsKept, IsQuiet}, gate_journal.Recovery.{HasRoom, AllStores, ReadsAs, Found}}
use Rattle.{page_store.{specs.gate_journal.claim.Store.{home, IsStore, Opens, pages}, proofs.Stops.kept_quiet}, sector_device.specs.claim.{Disk.{Disk, Image}, Moments.LeavesOnly}}
use Rattle.sector_device.{specs.declared.SectorDevice.Ghosts, proofs.Moments.leaves_wider}
use Rattle.page_store.proofs.gate_journal.Headers.{same_journal}

-- what is of the new version is of either
pub all_versions : (disk : Disk) → AllDesks disk → AllVersions disk
all_versions disk all c leaves = let is = all c leaves in ((true, is.0), is.1)

pub stores_of : (disk : Disk) → AllVersions disk → AllStores disk
stores_of disk all c leaves = let opens = (all c leaves).1 in record { J = opens.J; n = opens.n; whole = opens.whole; store = opens.opens.store }

pub page_stores_of : (disk : Disk) → AllVersions disk → AllPageStores disk
page_stores_of disk all c leaves = search rules

-- one image has one layout
layout_of : (sectors J n K m : ℕ) (c : Image) → IsStore J n c → IsStore K m c → home J + n ≡ sectors → home K + m ≡ sectors → (K ≡ J) × (m ≡ n)
layout_of sectors J n K m c one other whole whole' = search (rules, same_journal)

-- an image that stands for the pages of another opens to its desk, in its version
same_desk : {new : Bool} (sectors : ℕ) (d : Desk) (was c : Image) (J n : ℕ) → OpensDeskOf new sectors d was → IsStore J n was → home J + n ≡ sectors → Opens J n (pages J was) c → OpensDeskOf new sectors d c
same_desk sectors d was c J n opens store whole stands =
    let layout = layout_of sectors J n opens.J opens.n was store opens.opens.store whole opens.whole in
    let here : Opens opens.J opens.n (pages opens.J was) c = subst (λ (k : ℕ). Opens k opens.n (pages k was) c) (sym layout.0) (subst (λ (k : ℕ). Opens J k (pages J was) c) (sym layout.1) stands) in
    search rules

reads_as_one : (disk : Disk) (c : Image) → AllDesks disk → ReadsAs disk c → OpensOneOf disk c
reads_as_one disk c all told = let is = all told.was told.left in search (is.0, told.was, is.1, same_desk, told.J, told.store, told.whole, told.opens)

reads_as_version : (disk : Disk) (c : Image) → AllVersions disk → ReadsAs disk c → OpensOneAs disk c
reads_as_version disk c all told =
    let is = all told.was told.left in
    search (is.0, told.was, is.1, same_desk, is.0.1, told.J, told.store, told.whole, told.opens)

pub open_leaves : (old new : Disk) → AllDesks old → LeavesOnly (ReadsAs old) old new → LeavesOnly (OpensOneOf old) old new
open_leaves old new all left = leaves_wider (ReadsAs old) (OpensOneOf old) old new (λ c told. reads_as_one old c all told) left

pub open_versions : (old new : Disk) → AllVersions old → LeavesOnly (ReadsAs old) old new → LeavesOnly (OpensOneAs old) old new
open_versions old new all left = leaves_wider (ReadsAs old) (OpensOneAs old) old new (λ c told. reads_as_version old c all told) left

module _ {D : Type 0} {g : Ghosts D} where
  -- the pages that were found hold the desk of the image that was there
  pub found_desk : (old : Disk) (ps : Pages D g) (found : Found (journal_of ps) (count_of ps) old (disk_in ps)) → HasRoom old.sectors (journal_of ps) (count_of ps) → (x : Bool × Desk) → OpensAs old.sectors x found.was → InPagesAs ps x
  found_desk old ps found room x opens =
      let most = room.most_journal in
      let less = opens.opens.store.most_journal in
      let journal : opens.J ≡ journal_of ps = same_journal opens.J opens.n (journal_of ps) (count_of ps) (omega arith) (omega arith) (sym opens.opens.store.header ∙ found.header) in
      let count : opens.n ≡ count_of ps = omega (arith, journal, opens.whole, room.whole) in
      let there : pages opens.J found.was ≡ opens.P = λ i p. opens.opens.each p i in
      let same : opens.P ≡ stored ps = sym there ∙ ap (λ (k : ℕ). pages k found.was) journal ∙ sym found.same in
      search rules

  -- pages that were read stay as they were found
  pub found_after : (old : Disk) (a b : Pages D g) → ((disk_in a).is_honest → Found (journal_of a) (count_of a) old (disk_in a)) → IsQuiet a b → (disk_in b).is_honest → Found (journal_of b) (count_of b) old (disk_in b)
  found_after old a b found quiet honest = search rules

  pub pages_left : (old : Disk) (a b : Pages D g) → ((disk_in a).is_honest → Found (journal_of a) (count_of a) old (disk_in a)) → IsQuiet a b → (disk_in b).is_honest → HasPages old (disk_in b)
  pages_left old a b found quiet honest = (journal_of b, count_of b, found_after old a b found quiet honest)

  pub pages_stand : (old : Disk) (a b : Pages D g) → ((disk_in a).is_honest → Found (journal_of a) (count_of a) old (disk_in a)) → ((disk_in a).is_honest → IsKept a) → IsQuiet a b
      → (disk_in b).is_honest → StillStands old (disk_in b)
  pages_stand old a b found kept quiet honest = search (found_after old a b found quiet honest, kept_quiet a b quiet honest (kept (quiet.honest honest)))

  -- rows that are held after calls that read were held before
  pub rows_before : (a b : Pages D g) (m : KeyMap) → IsQuiet a b → (disk_in b).is_honest → HasRows b m → HasRows a m
  rows_before a b m quiet honest holds = search rules
