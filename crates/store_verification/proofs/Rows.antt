-- What is read of a desk and its rows while pages are only read.
use Rattle.{std.{specs.Prelude.{Option, Some, None, is_some}, proofs.Common.{◌≡◌, ℕ, List, Bool, true, false, sym, subst}}, desk_store_opening.specs.Checking.TellsDesk}
use Rattle.{desk_model.specs.declared.ranges.CountyRange.CountyRange, desk_store.specs.plan_revisions_sweeps.claim.Checks.AreSoundHoldings, page_btree.specs.gets.claim.Map.InTxn}
use Rattle.{desk_store_rows.specs.claim.{Keys.version, Rows.{KeyMap, row_in}, Tidy.version_row}, page_store.specs.claim.Transactions.{stored, disk_in, count_of, IsQuiet}}
use Rattle.{page_store.specs.declared.{pages.Pages.Pages, txn.Txn.Txn}, sector_device.specs.{claim.Disk.Image, declared.SectorDevice.Ghosts}}
use Rattle.{store_verification.specs.Looking.{Finds, OfRows, TellsNewDesk, TellsRows}, store_verification_rows.specs.{Strays.IsChecked, declared.wrong.WrongRow.WrongRow}}
use Rattle.desk_store.proofs.Prepared.{IsBegun, begun_rows}

module _ {D : Type 0} {g : Ghosts D} where
  -- nothing was found in pages that were only read
  pub not_found : {X : Type 0} (finds : ℕ → Image → X → Type 0) (a b : Pages D g) → IsQuiet a b → Finds finds a b None
  not_found finds a b quiet = record { quiet = quiet; found = λ honest. tt }

  still : (t : Txn) (a b : Pages D g) (m : KeyMap) → IsQuiet a b → (disk_in b).is_honest → InTxn t (stored a) m → InTxn t (stored b) m
  still t a b m quiet honest held = subst (λ (P : Image). InTxn t P m) (sym (quiet.same honest)) held

  pub desk_seen : (t : Txn) (a b d : Pages D g) → IsBegun a t → IsQuiet a b → IsQuiet b d → (new : Bool) → new ≡ true → ((disk_in b).is_honest → (m : KeyMap) → InTxn t (stored a) m → row_in m version ≡ version_row new)
      → (ranges : List CountyRange) → ((disk_in d).is_honest → (m : KeyMap) → InTxn t (stored b) m → TellsDesk ranges m) → (disk_in d).is_honest → OfRows (count_of a) (stored a) (TellsNewDesk ranges)
  desk_seen t a b d begun ab bd new is version_is ranges found honest m holds =
      let middle = bd.honest honest in
      let here = begun_rows a t m begun (ab.honest middle) holds in
      record { version = subst (λ (x : Bool). row_in m version ≡ version_row x) is (version_is middle m here); tells = found honest m (still t a b m ab middle here) }

  pub rows_seen : (t : Txn) (a b d e : Pages D g) → IsBegun a t → IsQuiet a b → IsQuiet b d → IsQuiet d e → ((disk_in b).is_honest → (m : KeyMap) → InTxn t (stored a) m → AreSoundHoldings m) → (stray : Option WrongRow) (rows : ℕ) (ranges all : List CountyRange)
      → is_some stray ≡ false → ranges ≡ all → ((disk_in e).is_honest → (m : KeyMap) → InTxn t (stored d) m → IsChecked stray rows ranges m) → (disk_in e).is_honest → OfRows (count_of a) (stored a) (TellsRows rows all)
  rows_seen t a b d e begun ab bd de sound (Some row) rows ranges all none same there = absurd (let clash : true ≡ false = none in cc)
  rows_seen t a b d e begun ab bd de sound None rows ranges all none same there = λ honest m holds.
      let third = de.honest honest in
      let second = bd.honest third in
      let first = begun_rows a t m begun (ab.honest second) holds in
      let last = still t b d m bd third (still t a b m ab second first) in
      let checked = subst (λ (l : List CountyRange). IsChecked None rows l m) same (there honest m last) in
      record { whole = checked.0; belong = checked.1; holdings = sound second m first }
