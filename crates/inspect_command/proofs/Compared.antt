-- The geography that is read of pages, and of a device that they were opened on.
use Rattle.std.{specs.Prelude.{Option, Result, Ok, Err}, proofs.{Common.{◌≡◌, ◌+◌, ◌≤◌, ℕ, Bool, true, false, inl, inr, sym, ap, subst, ◌∙◌, arith}, lemmas.Bool.both_ways}}
use Rattle.{census_difference.specs.{claim.Differences.DiffersFrom, declared.difference.Difference.Difference}, desk_model.specs.claim.{Desk.Desk, Geography.GeographyModel}}
use Rattle.{desk_store.specs.geo_tables.Elements.{IsGeographyRead, IsReadBy}, desk_store_pages.specs.{Desks.InPagesAs, Errors.page_refusal, Looking.Says, Reading.SeekErr}}
use Rattle.{desk_store_pages.specs.claim.{Desks.OpensDeskOf, Openings.{LeavesOneAs, OpensOneAs}}, desk_store_rows.specs.claim.{GeographyRows.IsGeography, Rows.KeyMap}}
use Rattle.{inspect_command.specs.{Comparing.{ComparesDevice, ComparesPages, IsComparedAs, IsUnread, fault_of_tree}, claim.Living.Hinders}, page_btree.specs.gets.claim.Map.InTxn}
use Rattle.{page_btree.specs.gets.declared.error.TreeError.TreeError, page_store.specs.{Transactions.OpenErr, declared.{pages.Pages.Pages, txn.Txn.Txn}}}
use Rattle.page_store.specs.{claim.Transactions.{stored, disk_in, device_in, count_of, journal_of, has_halted, IsQuiet}, gate_journal.{Recovery.{HasRoom, Found}, claim.Store.home}}
use Rattle.{page_store.specs.gate_journal.declared.error.PageError.PageError, sector_device.specs.{claim.Disk.{Disk, Image}, declared.SectorDevice.Ghosts}}
use Rattle.store_command.specs.{Faults.fault_of_store, declared.fault.StoreFault.{StoreFault, TheVariants.{NotAStore, DeviceFault, Memory}}, desk_theorem.claim.OneLife.ReadHolds}
use Rattle.store_command.specs.desk_theorem.{claim.Device.{HoldsStore, OpensAs}, lives.claim.Versions.{Store, Version, version_1, version_2, either}, runs.Recovery.ImagesAreOne}
use Rattle.{desk_store_pages.proofs.Found.{found_desk, page_stores_of}, inspect_command.proofs.Unread.no_less, page_store.proofs.Stops.leaves_quiet}
use Rattle.store_command.proofs.desk_theorem.Device.{and_on, held_all, read_on}
use Rattle.page_btree.specs.gets.declared.error.TreeError.TheVariants as tree
use Rattle.page_store.specs.gate_journal.declared.error.PageError.TheVariants as page
use Rattle.store_command.proofs.desk_store.Prepared.{IsBegun, begun_rows}

module _ {D : Type 0} {g : Ghosts D} where
  -- ---- pages
  pub pages_compared : (a b : Pages D g) (t : Txn) (said : GeographyModel) (found lent : Option GeographyModel) (difference : Option Difference) → IsBegun a t → IsQuiet a b → lent ≡ found
      → ((disk_in b).is_honest → (m : KeyMap) → InTxn t (stored a) m → IsReadBy IsGeographyRead IsGeography m found) → DiffersFrom lent said difference → ComparesPages said a b (Ok difference)
  pages_compared a b t said found lent difference begun quiet lent_is read is = record {
    quiet = quiet;
    compared = λ honest x holds.
        (let m = holds.m in
        let only = (read honest m (begun_rows a t m begun (quiet.honest honest) holds.holds)).read x.1.geography holds.is.desk.geography in
        subst (λ (o : Option GeographyModel). DiffersFrom o said difference) (lent_is ∙ only) is);
    err = tt;
  }

  unread : (a b : Pages D g) (t : Txn) (e : TreeError) → has_halted a ≡ false → IsBegun a t → IsQuiet a b → SeekErr (Unit {0}) (Says IsGeography) t a b e → IsUnread a b (fault_of_tree e)
  unread a b t tree.DeviceFault working begun quiet why = why.halted
  unread a b t tree.NotAStore working begun quiet why = λ honest x holds. why honest holds.m (begun_rows a t holds.m begun (quiet.honest honest) holds.holds) (x.1.geography, holds.is.desk.geography)
  unread a b t tree.Halted working begun quiet why = absurd (both_ways (has_halted a) working why)
  unread a b t tree.NoPages working begun quiet why = absurd why
  unread a b t tree.TooDeep working begun quiet why = absurd why
  unread a b t tree.Memory working begun quiet why = tt

  pub pages_unread : (a b : Pages D g) (t : Txn) (said : GeographyModel) (e : TreeError) (fault : StoreFault) → fault ≡ fault_of_tree e → has_halted a ≡ false → IsBegun a t → IsQuiet a b → SeekErr (Unit {0}) (Says IsGeography) t a b e → ComparesPages said a b (Err fault)
  pages_unread a b t said e fault is working begun quiet why = record {
    quiet = quiet;
    compared = λ honest x holds. tt;
    err = subst (λ (f : StoreFault). IsUnread a b f) (sym is) (unread a b t e working begun quiet why);
  }

-- ---- a device
-- an image of a store opens to its desk, in some version
opens_in : (v : Version) (n : ℕ) (d : Desk) (c : Image) → OpensAs v n d c → (new : Bool) × OpensDeskOf new n d c
opens_in version_1 n d c opens = (false, opens)
opens_in version_2 n d c opens = (true, opens)
opens_in either n d c (inl opens) = (true, opens)
opens_in either n d c (inr opens) = (false, opens)

module _ {D : Type 0} (g : Ghosts D) (law : ImagesAreOne) (said : GeographyModel) (device : D) where
  abbrev old : Disk
  old = g.disk device

  as_life : (left : D) (result : Result (Option Difference) StoreFault) → (g.disk left).sectors ≡ old.sectors → ((g.disk left).is_honest → old.is_honest) → LeavesOneAs old (g.disk left) → ((g.disk left).is_honest → old.faults ≤ (g.disk left).faults)
      → ((g.disk left).is_honest → (s : Store) → HoldsStore s old → IsComparedAs said result old.faults (g.disk left).faults s.1) → ComparesDevice g said device result left
  as_life left result sectors honest versions more so = record {
    sectors = sectors;
    honest = honest;
    any_moment = versions;
    life = and_on ReadHolds (λ t u s. IsComparedAs said result t u s.1) old (g.disk left) so (read_on law old (g.disk left) sectors honest versions more);
  }

  refuses : (left : D) (e : PageError) → OpenErr g device left e → (g.disk left).is_honest → (s : Store) → HoldsStore s old → Hinders (fault_of_store (page_refusal e)) old.faults (g.disk left).faults
  refuses left page.DeviceFault why good s held = why good
  refuses left page.NotAStore why good s held = absurd (why good (page_stores_of old (held_all s old held)))
  refuses left page.Memory why good s held = tt
  refuses left _ why good s held = absurd why

  pub not_opened : (left : D) (e : PageError) (fault : StoreFault) → fault ≡ fault_of_store (page_refusal e) → (g.disk left).sectors ≡ old.sectors → ((g.disk left).is_honest → old.is_honest) → LeavesOneAs old (g.disk left) → ((g.disk left).is_honest → old.faults ≤ (g.disk left).faults)
      → OpenErr g device left e → ComparesDevice g said device (Err fault) left
  not_opened left e fault is sectors honest versions more why =
      as_life left (Err fault) sectors honest versions more (λ good s held. subst (λ (f : StoreFault). Hinders f old.faults (g.disk left).faults) (sym is) (refuses left e why good s held))

  module _ (a b : Pages D g) (room : HasRoom old.sectors (journal_of a) (count_of a)) (found : (disk_in a).is_honest → Found (journal_of a) (count_of a) old (disk_in a)) (working : has_halted a ≡ false)
      (passed : (disk_in a).is_honest → (disk_in a).faults ≡ old.faults) (quiet : IsQuiet a b) where
    -- the desk of a store that the device held is in the pages
    held_in : (good : (disk_in b).is_honest) (s : Store) → HoldsStore s old → (new : Bool) × InPagesAs a (new, s.1)
    held_in good s held =
        let it = found (quiet.honest good) in
        let opens = opens_in s.0 old.sectors s.1 it.was (held it.was it.left) in
        (opens.0, found_desk old a it room (opens.0, s.1) opens.1)

    hinders : (fault : StoreFault) → IsUnread a b fault → (disk_in b).is_honest → (s : Store) → HoldsStore s old → Hinders fault old.faults (disk_in b).faults
    hinders NotAStore why good s held = let it = held_in good s held in absurd (why good (it.0, s.1) it.1)
    hinders DeviceFault why good s held = let rises = quiet.rose working why good in let same = passed (quiet.honest good) in omega (arith, rises, same)
    hinders Memory why good s held = tt
    hinders _ why good s held = absurd why

    so : (result : Result (Option Difference) StoreFault) → ComparesPages said a b result → (disk_in b).is_honest → (s : Store) → HoldsStore s old → IsComparedAs said result old.faults (disk_in b).faults s.1
    so (Ok difference) is good s held = let it = held_in good s held in is.compared good (it.0, s.1) it.1
    so (Err fault) is good s held = hinders fault is.err good s held

    same_sectors : (disk_in b).sectors ≡ (disk_in a).sectors
    same_sectors = sym b.journal.room.whole ∙ ap (λ J. home J + count_of b) quiet.journal ∙ ap (λ n. home (journal_of a) + n) quiet.count ∙ a.journal.room.whole

    pub device_compared : (result : Result (Option Difference) StoreFault) (left : D) → left ≡ device_in b → (disk_in a).sectors ≡ old.sectors → ((disk_in a).is_honest → old.is_honest) → LeavesOneAs old (disk_in a) → ComparesPages said a b result → ComparesDevice g said device result left
    device_compared result left back sectors honest versions is = subst (λ (d : D). ComparesDevice g said device result d) (sym back)
        (as_life (device_in b) result (same_sectors ∙ sectors) (λ good. honest (quiet.honest good)) (λ good all. leaves_quiet a b quiet good (OpensOneAs old) old (versions (quiet.honest good) all)) (λ good. no_less a b old working passed quiet good) (so result is))
