-- Rows that belong to a store.
use Rattle.{std.specs.{FinMap.{entries, get}, List.AllByRecursion, Prelude.{Option, Result, Err, IsErrAnd}}, btree_scan.specs.{Prefixes.under, declared.rows.Row.Row}}
use Rattle.{std.proofs.Common.{◌≡◌, ℕ, List, [], Bool, true, false, Some, None, Ok, refl, sym, ap, subst, ◌∙◌}, btree_scan.specs.Scanning.{TakesNextRow, fault_in, has_ended}}
use Rattle.{btree_scan.specs.declared.scans.RowScan.RowScan, desk_model.specs.declared.ranges.CountyRange.CountyRange, desk_store_pages.specs.Looking.Looks}
use Rattle.{desk_store_rows.specs.{RowKeys.IsKey, claim.{Keys.{RowKey, key_of, part}, Lists.{AreChunks, chunks_bytes}, Rows.KeyMap}}, page_btree.specs.node.claim.Entries.Entry}
use Rattle.{page_btree.specs.gets.declared.error.TreeError.TreeError, page_store.specs.{claim.Transactions.{IsQuiet, Passed}, declared.{pages.Pages.Pages, txn.Txn.Txn}}}
use Rattle.{sector_device.specs.declared.SectorDevice.Ghosts, store_verification_rows.specs.declared.wrong.Wrong.Wrong, btree_scan.proofs.RowsFound.all_found}
use Rattle.store_verification_rows.{specs.Strays.{AllBelong, Belongs, IsAny, IsJudged, IsNamed, IsNaming, IsRight, IsStray, IsWrong, NamesAt, Tells}, proofs.KeyBytes.at_row}
use Rattle.{btree_scan.proofs.Walked.{HasNext, HasWalked, walk_next, walk_passed}, desk_store_pages.proofs.Looking.{fails, looked}, desk_store_rows.proofs.ListLaws.chunks_differ}
use Rattle.{desk_store_rows.proofs.RowLaws.keys_differ, store_verification_rows.proofs.Whole.get_is}

module _ (ranges : List CountyRange) (m : KeyMap) (key value : List ℕ) where
  pub judged : (row : RowKey) → IsKey row key → (wrong : Option Wrong) → Tells (Belongs ranges m row value) wrong → IsJudged ranges (key, value) m wrong
  judged row of None is = at_row (λ r. Belongs ranges m r value) key row of is
  judged row of (Some wrong) none = (row, of.fits, of.is, none)

-- ---- parts that name a chunk
module _ (ranges : List CountyRange) (of : Option ℕ) (number piece : ℕ) where
  -- which part it is and its chunks are one
  pub naming_at : (key value : List ℕ) (plan revision index : ℕ) (numbers : List ℕ) → IsKey (part plan revision index) key → AreChunks numbers → chunks_bytes numbers ≡ value → IsNaming ranges of number piece (key, value) → NamesAt ranges numbers index number piece
  naming_at key value plan revision index numbers is chunks bytes naming =
      let same : part plan revision index ≡ part naming.plan naming.revision naming.index = keys_differ _ _ is.fits naming.fits (sym is.is ∙ naming.key) in
      let equal : index ≡ naming.index = cc in
      let all : numbers ≡ naming.numbers = chunks_differ numbers naming.numbers chunks naming.chunks (bytes ∙ naming.value) in
      subst (λ (x : ℕ). NamesAt ranges numbers x number piece) (sym equal) (subst (λ (ns : List ℕ). NamesAt ranges ns naming.index number piece) (sym all) naming.at)

  -- of all rows none does
  pub none_named : (m : KeyMap) (rows : List Entry) → under [] (entries m) ≡ rows → AllByRecursion (λ e. IsNaming ranges of number piece e → ⊥) rows → IsNamed ranges of number piece m → ⊥
  none_named m rows whole all is = all_found (λ e. IsNaming ranges of number piece e → ⊥) is.0.0 is.0.1 rows all (sym (get_is m is.0.0 rows whole) ∙ is.1) is.2

-- ---- rows, one after the other
pub all_right : (ranges : List CountyRange) (m : KeyMap) (rows : List Entry) → under [] (entries m) ≡ rows → AllByRecursion (IsRight ranges m) rows → AllBelong ranges m
all_right ranges m rows whole all row value fits has =
    all_found (IsRight ranges m) (key_of row) value rows all (sym (get_is m (key_of row) rows whole) ∙ has) row fits refl

-- one that is wrong is a stray
pub stray_by : (ranges : List CountyRange) (m : KeyMap) (e : Entry) → get m e.0 ≡ Some e.1 → IsWrong ranges m e → IsStray ranges m e.0
stray_by ranges m e there wrong = (wrong.0, wrong.1, wrong.2, (e.1, ap (get m) (sym wrong.2) ∙ there, wrong.3))

-- what failed is told
pub failed : {D X Y : Type 0} {g : Ghosts D} {says : KeyMap → X → Type 0} {also : KeyMap → Y → Type 0} {t : Txn} {a b : Pages D g} {e : TreeError} (r : Result Y TreeError)
    → Looks says IsAny t a b (Err e) → IsErrAnd r (λ y. y ≡ e) → Looks also IsAny t a b r
failed r look is = fails r look is (λ m any. any)

-- ---- a row that a scan gives is looked at
module _ {D : Type 0} {g : Ghosts D} {prefix : List ℕ} {Known : KeyMap → List Entry → Type 0} {t : Txn} {old now new : Pages D g} {was : RowScan} {count : ℕ} where
  pub walk_looks : HasWalked prefix Known t old now was count → IsQuiet now new → (is : RowScan) (row : Row) (found : Bool) → TakesNextRow t now new was is row found → found ≡ true
      → (found ≡ true → (has_ended is ≡ false) × (fault_in is ≡ fault_in was)) → (fault_in is ≡ None → Passed now new) → Looks (λ m _. HasNext prefix Known m row) IsAny t old new (Ok (tt {0}))
  walk_looks walked quiet is row found takes told going passes = looked (walk_passed walked quiet is row found takes told going passes) (walk_next walked quiet is row found takes told)
