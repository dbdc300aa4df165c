-- A plan lets a chunk go: its row is taken out, and the count goes down by one.
use Rattle.std.{specs.FinMap.{get, insert, remove}, proofs.Common.{◌≡◌, ◌<◌, ◌≤◌, ◌+◌, ◌-◌, ◌^◌, ℕ, suc, List, length, Option, Some, None, sym, ap, subst, ◌∙◌, arith}}
use Rattle.{chunk_table.specs.{Holding.HasHolderCount, Releasing.{TellsMore, HasCount, HasLowered, LowerErr, HasReleased, ReleaseErr}}, desk_store_pages.specs.Reading.ReadErr}
use Rattle.desk_store_rows.specs.{Holders.{with_holder_count, released}, claim.{Holders.holder_count_row, Keys.{key_of, holding, holder_count, in_eight}, Rows.{KeyMap, row_in}}}
use Rattle.page_btree.specs.gets.{Errors.IsNoWant, claim.{Errors.{PutErr, RemoveErr}, Map.InTxn}, declared.error.TreeError.{TreeError, TheVariants.{NotAStore, NoPages, TooDeep}}}
use Rattle.page_store.specs.{claim.Transactions.{stored, disk_in, txn_pages, txn_free, txn_writes, IsQuiet, Passed}, declared.{pages.Pages.Pages, txn.Txn.Txn}}
use Rattle.{sector_device.specs.{claim.Disk.Image, declared.SectorDevice.Ghosts}, desk_store_rows.proofs.Frames.remove_keeps_tag}
use Rattle.page_store.proofs.Stops.{passed_more, failed_more}

-- ---- the row of a count
some_told : (m : KeyMap) (number count : ℕ) (key value : List ℕ) → (count ≡ 0 → ⊥) → key ≡ key_of (holder_count number) → value ≡ in_eight count → insert m key value ≡ with_holder_count m number count
some_told m number count key value some is told = (λ i. insert m (is i) (told i)) ∙ (search (arith, some))

module _ {D : Type 0} {g : Ghosts D} (number count : ℕ) (t u : Txn) (a b : Pages D g) (key : List ℕ) (is : key ≡ key_of (holder_count number)) where
  pub count_gone : count ≡ 0 → Passed a b → txn_pages u ≡ txn_pages t → ((disk_in b).is_honest → (m : KeyMap) → InTxn t (stored a) m → InTxn u (stored a) (remove m key)) → txn_writes u ≤ txn_writes t + 6 → txn_free t ≤ txn_free u → HasLowered number count t u a b
  count_gone none passed pages removed writes given = record {
    passed = passed;
    pages = pages;
    lowered = λ honest m holds. subst (λ (n : KeyMap). InTxn u (stored a) n) (ap (λ (k : List ℕ). remove m k) is ∙ ap (λ (n : ℕ). with_holder_count m number n) (sym none)) (removed honest m holds);
    writes = omega arith;
    given = λ honest m holds told. given;
  }

  pub count_put : (value : List ℕ) → (count ≡ 0 → ⊥) → value ≡ in_eight count → Passed a b → txn_pages u ≡ txn_pages t → ((disk_in b).is_honest → (m : KeyMap) → InTxn t (stored a) m → InTxn u (stored a) (insert m key value)) → txn_writes u ≤ txn_writes t + 11
      → ((disk_in b).is_honest → (m : KeyMap) (held : List ℕ) → InTxn t (stored a) m → get m key ≡ Some held → length held ≡ length value → txn_free u ≡ txn_free t) → HasLowered number count t u a b
  count_put value some told passed pages put writes fixed = record {
    passed = passed;
    pages = pages;
    lowered = λ honest m holds. subst (λ (n : KeyMap). InTxn u (stored a) n) (some_told m number count key value some is told) (put honest m holds);
    writes = writes;
    given = λ honest m holds more. let same = fixed honest m (in_eight (count + 1)) holds (ap (get m) is ∙ more) (sym (ap length told)) in omega arith;
  }

  pub count_not_put : (value : List ℕ) → value ≡ in_eight count → (e : TreeError) → PutErr t a b e → ((disk_in b).is_honest → (m : KeyMap) (held : List ℕ) → InTxn t (stored a) m → get m key ≡ Some held → length held ≡ length value → IsNoWant e) → LowerErr number count t a b e
  count_not_put value told NoPages why want = λ honest m holds more. want honest m (in_eight (count + 1)) holds (ap (get m) is ∙ more) (sym (ap length told))
  count_not_put value told TooDeep why want = λ honest m holds more. want honest m (in_eight (count + 1)) holds (ap (get m) is ∙ more) (sym (ap length told))
  count_not_put value told _ why want = why

pub count_not_gone : {D : Type 0} {g : Ghosts D} (number count : ℕ) (t : Txn) (a b : Pages D g) (e : TreeError) → RemoveErr t a b e → LowerErr number count t a b e
count_not_gone number count t a b e why = search (arith)

-- ---- both rows
module _ {D : Type 0} {g : Ghosts D} (number count : ℕ) (t : Txn) (a b : Pages D g) (read : Passed a b) (told : (disk_in b).is_honest → (m : KeyMap) → InTxn t (stored a) m → row_in m (holder_count number) ≡ holder_count_row count) (fits : count < 2 ^ 64) where
  module _ (some : count ≡ 0 → ⊥) where
    abbrev counted : (disk_in b).is_honest → (m : KeyMap) → InTxn t (stored a) m → HasCount number m
    counted honest m holds = (let fewer : count ≡ suc (count - 1) = omega arith in record { count = count - 1; fits = omega arith; told = told honest m holds ∙ ap holder_count_row fewer })

    still : (disk_in b).is_honest → (m : KeyMap) → InTxn t (stored a) m → InTxn t (stored b) m
    still honest m holds = rw (read.quiet.same honest) holds

    pub not_removed : (c : Pages D g) (e : TreeError) → IsQuiet b c → RemoveErr t b c e → ReleaseErr number t a c e
    not_removed c NotAStore quiet why = λ honest m holds has. why honest m (still (quiet.honest honest) m holds)
    not_removed c _ quiet why = search (arith, failed_more)

    module _ (plan : ℕ) (u : Txn) (c : Pages D g) (key : List ℕ) (is : key ≡ key_of (holding plan number)) (gone : Passed b c) (pages : txn_pages u ≡ txn_pages t) (removed : (disk_in c).is_honest → (m : KeyMap) → InTxn t (stored b) m → InTxn u (stored b) (remove m key)) (writes : txn_writes u ≤ txn_writes t + 6) (given : txn_free t ≤ txn_free u) where
      abbrev without : KeyMap → KeyMap
      without m = remove m (key_of (holding plan number))

      reads : (disk_in c).is_honest → (m : KeyMap) → InTxn t (stored a) m → InTxn u (stored c) (without m)
      reads honest m holds =
          let then : InTxn u (stored b) (without m) = rw is at (removed honest m (still (gone.quiet.honest honest) m holds)) in
          rw (gone.quiet.same honest) then

      tells : (disk_in c).is_honest → (m : KeyMap) → InTxn t (stored a) m → TellsMore number (count - 1) (without m)
      tells honest m holds = remove_keeps_tag m 75 72 _ (λ e. absurd (omega arith)) _ ∙ (counted (gone.quiet.honest honest) m holds).told

      all_passed : Passed a c
      all_passed = passed_more a b c read gone

      pub released_then : (v : Txn) (d : Pages D g) → HasLowered number (count - 1) u v c d → HasReleased plan number t v a d
      released_then v d low = record {
        passed = passed_more a c d all_passed low.passed;
        pages = low.pages ∙ pages;
        released = λ honest m holds.
            let before = low.passed.quiet.honest honest in
            record {
              before = counted (gone.quiet.honest before) m holds;
              holds = subst (λ (P : Image). InTxn v P (released m plan number (count - 1))) (all_passed.quiet.same before) (low.lowered honest (without m) (reads before m holds));
            };
        writes = let most = low.writes in omega arith;
        given = λ honest m holds.
            let before = low.passed.quiet.honest honest in
            let more = low.given honest (without m) (reads before m holds) (tells before m holds) in
            omega arith;
      }

      pub not_lowered : (d : Pages D g) (e : TreeError) → IsQuiet c d → LowerErr number (count - 1) u c d e → ReleaseErr number t a d e
      not_lowered d NotAStore quiet why = λ honest m holds has. why honest (without m) (reads (quiet.honest honest) m holds)
      not_lowered d NoPages quiet why = λ honest m holds. let before = quiet.honest honest in why honest (without m) (reads before m holds) (tells before m holds)
      not_lowered d TooDeep quiet why = λ honest m holds. let before = quiet.honest honest in why honest (without m) (reads before m holds) (tells before m holds)
      not_lowered d _ quiet why = search (arith, failed_more, all_passed)

-- a count that isn't read
pub not_counted_here : {D : Type 0} {g : Ghosts D} (number : ℕ) (t : Txn) (a b : Pages D g) (e : TreeError) → ReadErr (HasHolderCount number) t a b e → ReleaseErr number t a b e
not_counted_here number t a b NotAStore why = λ honest m holds has. let fits = has.fits in why honest m holds (suc has.count, omega arith, has.told)
not_counted_here number t a b _ why = search arith

-- or is that of no holder
pub none_counted : {D : Type 0} {g : Ghosts D} (number count : ℕ) (t : Txn) (a b : Pages D g) → ((disk_in b).is_honest → (m : KeyMap) → InTxn t (stored a) m → row_in m (holder_count number) ≡ holder_count_row count) → count ≡ 0 → ReleaseErr number t a b NotAStore
none_counted number count t a b told none = λ honest m holds has. absurd (let same : ◌≡◌ {A = Option (List ℕ)} None (Some (in_eight (has.count + 1))) = sym (ap holder_count_row none) ∙ sym (told honest m holds) ∙ has.told in cc)
