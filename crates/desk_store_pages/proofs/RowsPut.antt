-- Lemmas on the definitions of Puts: rows are put as with two leaves that are known, of which none is.
use Rattle.std.{specs.{FinMap.insert, Prelude.{◌≡◌, ◌<◌, ◌≤◌, ◌+◌, ℕ, false, List, [], ◌∷◌, ◌++◌}}, proofs.Common.{rules, suc, refl, subst, arith}}
use Rattle.{desk_store_pages.specs.{Rising.{HasPutWith, PutsErrWith}, claim.Puts.{HasPut, PutsErr}}, desk_store_rows.specs.{Puts.rows_told, claim.{Puts.Row, Rows.KeyMap}}}
use Rattle.page_btree.specs.gets.{claim.{Errors.{PutErr, reach_in, top_reach}, Map.InTxn}, declared.error.TreeError.{TreeError, TheVariants.{NotAStore, NoPages, TooDeep, Memory}}}
use Rattle.{page_btree.specs.puts.declared.finger.{Finger.Finger, Fingers.Fingers}, page_store.{specs.declared.{pages.Pages.Pages, txn.Txn.Txn}, proofs.Stops.passed_none}}
use Rattle.{page_store.specs.claim.Transactions.{txn_root, over, stored, disk_in, txn_pages, txn_free, txn_writes, IsQuiet, Passed}, desk_store_rows.proofs.Puts.told_prefix}
use Rattle.sector_device.specs.declared.SectorDevice.{Ghosts}
use Rattle.desk_store_pages.proofs.Rising.{fresh_stand, more_put_with, then_not_put_with, prefix_not_put_with, fresh_put, fresh_not_put}

abbrev no_leaf : Finger
no_leaf = record { page = 0; low = []; reach = record { bounded = false; bound = [] }; near = record { k = 0; at = 0 } }

abbrev no_leaves : Fingers
no_leaves = record { first = no_leaf; second = no_leaf }

module _ {D : Type 0} {g : Ghosts D} where
  pub none_put : (t : Txn) (a : Pages D g) → HasPut [] t t a a
  none_put t a = search (rules, passed_none)

  with_none : (rows : List Row) (t u : Txn) (a b : Pages D g) → HasPut rows t u a b → HasPutWith no_leaves no_leaves rows t u a b
  with_none rows t u a b did = record {
    passed = did.passed;
    pages = did.pages;
    put = λ honest m holds stand. (did.put honest m holds, fresh_stand u (stored a) no_leaves refl refl);
    writes = did.writes;
    taken = did.taken;
    nearer = λ honest m holds stand. did.nearer honest m holds;
  }

  err_with_none : (rows : List Row) (t : Txn) (a b : Pages D g) (e : TreeError) → PutsErr rows t a b e → PutsErrWith no_leaves rows t a b e
  err_with_none rows t a b NotAStore why = λ honest m holds stand. why honest m holds
  err_with_none rows t a b TooDeep why = λ honest m holds stand. why honest m holds
  err_with_none rows t a b _ why = why

  pub more_put : (rows more : List Row) (t u v : Txn) (a b c : Pages D g) → HasPut rows t u a b → HasPut more u v b c → HasPut (rows ++ more) t v a c
  more_put rows more t u v a b c first then = fresh_put no_leaves no_leaves (rows ++ more) t v a c refl refl
      (more_put_with no_leaves no_leaves no_leaves rows more t u v a b c (with_none rows t u a b first) (with_none more u v b c then))

  -- one row was put
  pub one_put : (key value : List ℕ) (t u : Txn) (a b : Pages D g) → Passed a b → txn_pages u ≡ txn_pages t → ((disk_in b).is_honest → (m : KeyMap) → InTxn t (stored a) m → InTxn u (stored a) (insert m key value)) → txn_writes u ≤ txn_writes t + 11 → txn_free t ≤ txn_free u + 6
      → ((disk_in b).is_honest → (m : KeyMap) → InTxn t (stored a) m → reach_in (over u (stored a)) (txn_root u) ≤ reach_in (over t (stored a)) (txn_root t) + 1) → HasPut ((key, value) ∷ []) t u a b
  one_put key value t u a b passed pages put writes taken nearer = search rules

  -- or it was not
  pub one_not_put : (row : Row) (t : Txn) (a b : Pages D g) (e : TreeError) → ((disk_in b).is_honest → (m : KeyMap) → InTxn t (stored a) m → e ≡ TooDeep → top_reach ≤ reach_in (over t (stored a)) (txn_root t)) → PutErr t a b e → PutsErr (row ∷ []) t a b e
  one_not_put row t a b NoPages tall why = omega arith
  one_not_put row t a b TooDeep tall why = λ honest m holds. let near = tall honest m holds refl in (record { prefix = []; rest = row ∷ []; are = refl; txn = t; holds = holds; deep = why honest }, omega (arith, near))
  one_not_put row t a b Memory tall why = tt
  one_not_put row t a b _ tall why = why

  -- some were put, and then others were not
  pub then_not_put : (rows more : List Row) (t u : Txn) (a b c : Pages D g) (e : TreeError) → HasPut rows t u a b → IsQuiet b c → PutsErr more u b c e → PutsErr (rows ++ more) t a c e
  then_not_put rows more t u a b c e put quiet why = fresh_not_put no_leaves (rows ++ more) t a c e refl refl
      (then_not_put_with no_leaves no_leaves rows more t u a b c e (with_none rows t u a b put) quiet (err_with_none more u b c e why))

  -- rows are not all put where the first of them are not
  pub prefix_not_put : (rows more : List Row) (t : Txn) (a b : Pages D g) (e : TreeError) → PutsErr rows t a b e → PutsErr (rows ++ more) t a b e
  prefix_not_put rows more t a b e why = fresh_not_put no_leaves (rows ++ more) t a b e refl refl (prefix_not_put_with no_leaves rows more t a b e (err_with_none rows t a b e why))

  -- of rows that a place tells: one more, and none at all where a prefix is not
  pub told_more : (row : ℕ → Row) (k : ℕ) (t u v : Txn) (a b c : Pages D g) → HasPut (rows_told row k) t u a b → HasPut (row k ∷ []) u v b c → HasPut (rows_told row (k + 1)) t v a c
  told_more row k t u v a b c put more =
      let next : suc k ≡ k + 1 = omega arith in
      subst (λ n. HasPut (rows_told row n) t v a c) next (more_put (rows_told row k) (row k ∷ []) t u v a b c put more)

  pub told_not_put : (row : ℕ → Row) (k n : ℕ) (t u : Txn) (a b c : Pages D g) (e : TreeError) → k < n → HasPut (rows_told row k) t u a b → IsQuiet b c → PutsErr (row k ∷ []) u b c e → PutsErr (rows_told row n) t a c e
  told_not_put row k n t u a b c e less put quiet why =
      search (arith, told_prefix row (suc k) n (omega arith), prefix_not_put, then_not_put (rows_told row k) (row k ∷ []) t u a b c e put quiet why)
