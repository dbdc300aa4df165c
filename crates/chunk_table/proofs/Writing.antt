-- What is written after rows were only read.
use Rattle.{std.{specs.Prelude.{◌≡◌, Result, Ok, Err, IsErrAnd, MatchResult}, proofs.Common.{ℕ, [], ◌∷◌, ◌+◌, ◌<◌, subst, sym, ◌∙◌, arith}}, desk_store_rows.specs.Puts.rows_told}
use Rattle.{desk_store_pages.specs.{Outcomes.{PutsRows, Writes}, Rising.{HasPutWith, PutsErrWith}, claim.Puts.HasPut}, desk_store_rows.specs.claim.Puts.Row}
use Rattle.{page_btree.specs.{gets.declared.error.TreeError.TreeError, puts.declared.finger.Fingers.Fingers}, page_store.specs.claim.Transactions.{count_of, txn_pages, IsQuiet}}
use Rattle.{page_store.specs.declared.{pages.Pages.Pages, txn.Txn.Txn}, sector_device.specs.declared.SectorDevice.Ghosts, desk_store_pages.proofs.Outcomes.match_of}
use Rattle.{desk_store_pages.proofs.Rising.{HasPutFrom, told_more_from, told_not_put_from, all_from}, page_store.proofs.Stops.quiet_more}

module _ {D Y : Type 0} {g : Ghosts D} {also : Y → Type 0} {why : TreeError → Type 0} {t : Txn} {a b : Pages D g} where
  -- nothing was written
  pub only_read : {r : Result Y TreeError} → txn_pages t ≡ count_of a → IsQuiet a b → MatchResult r also why → Writes also why t a b r
  only_read begun quiet put = record { quiet = quiet; begun = begun ∙ sym quiet.count; put = put }

  -- since a read failed
  pub unread : (r : Result Y TreeError) (e : TreeError) → txn_pages t ≡ count_of a → IsQuiet a b → IsErrAnd r (λ x. x ≡ e) → why e → Writes also why t a b r
  unread r e begun quiet is e_why = search (arith, only_read)

module _ {D X : Type 0} {g : Ghosts D} {done : X → Type 0} {failed : TreeError → Type 0} {u : Txn} {b d : Pages D g} where
  -- the reads come before what was done
  pub after_reads : {a : Pages D g} (r : Result X TreeError) → IsQuiet a b → Writes done failed u b d r → Writes done (λ e. IsQuiet b d × failed e) u a d r
  after_reads {a} (Ok x) quiet write = record { quiet = quiet_more a b d quiet write.quiet; begun = write.begun; put = write.put }
  after_reads {a} (Err e) quiet write = record { quiet = quiet_more a b d quiet write.quiet; begun = write.begun; put = (write.quiet, write.put) }

  -- what came of a write says something else
  pub writes_as : {also : X → Type 0} {why : TreeError → Type 0} (r : Result X TreeError) → Writes done failed u b d r → ((x : X) → done x → also x) → ((e : TreeError) → failed e → why e) → Writes also why u b d r
  writes_as r write gives needs = search (arith, gives, needs)

-- ---- rows that a place tells are put with two leaves that are known, one after the other
pub all_told : {D X : Type 0} {g : Ghosts D} (row : ℕ → Row) (k n : ℕ) {f : Fingers} {t u : Txn} {a b : Pages D g} {x : X} → k ≡ n
    → HasPutFrom f (rows_told row k) t u a b → txn_pages u ≡ count_of b → PutsRows (rows_told row n) t u a b (Ok x)
all_told row k n {f} {t} {u} {a} {b} all before begun =
    record { quiet = before.put.passed.quiet; begun = begun; put = subst (λ (n : ℕ). HasPut (rows_told row n) t u a b) all (all_from f (rows_told row k) t u a b before) }

module _ {D : Type 0} {g : Ghosts D} (row : ℕ → Row) {k : ℕ} {f : Fingers} {t u v : Txn} {a b d : Pages D g} {one : Row} where
  pub told_more_row : {h : Fingers} → one ≡ row k → HasPutFrom f (rows_told row k) t u a b → HasPutWith f h (one ∷ []) u v b d → HasPutFrom h (rows_told row (k + 1)) t v a d
  told_more_row {h} is before put = told_more_from row k f h t u v a b d before (subst (λ (x : Row). HasPutWith f h (x ∷ []) u v b d) is put)

  pub told_fail_row : {Z : Type 0} (n : ℕ) (r : Result Z TreeError) (e : TreeError) → one ≡ row k → k < n → HasPutFrom f (rows_told row k) t u a b → IsQuiet b d → txn_pages v ≡ count_of d → PutsErrWith f (one ∷ []) u b d e → IsErrAnd r (λ x. x ≡ e) → PutsRows (rows_told row n) t v a d r
  told_fail_row {Z} n r e is less before quiet begun why told = record {
    quiet = quiet_more a b d before.put.passed.quiet quiet;
    begun = begun;
    put = match_of r _ e _ told (told_not_put_from row k n f t u a b d e less before quiet (subst (λ (x : Row). PutsErrWith f (x ∷ []) u b d e) is why));
  }
