-- Rows that are put, call by call.
use Rattle.{std.{specs.Prelude.{◌≡◌, ◌<◌, ◌+◌, ℕ, List, ◌++◌, [], ◌∷◌, Result, Ok, Err, IsErrAnd}, proofs.Common.{rules, sym, subst}}, desk_store_rows.specs.Puts.rows_told}
use Rattle.{desk_store_pages.specs.Outcomes.{PutsRows, Writes}, desk_store_rows.specs.claim.Puts.Row, page_btree.specs.gets.declared.error.TreeError.TreeError}
use Rattle.{page_store.specs.{claim.Transactions.{count_of, txn_pages, IsQuiet}, declared.{pages.Pages.Pages, txn.Txn.Txn}}, sector_device.specs.declared.SectorDevice.Ghosts}
use Rattle.{desk_store_pages.proofs.RowsPut.{more_put, none_put, prefix_not_put, then_not_put, told_more, told_not_put}, page_store.proofs.Stops.{quiet_more, quiet_none}}

module _ {D X Y : Type 0} {g : Ghosts D} {done : X → Type 0} {failed : TreeError → Type 0} {u : Txn} {a b : Pages D g} {also : Y → Type 0} {why : TreeError → Type 0} where
  -- what was done says something else
  pub does : {x : X} {y : Y} → Writes done failed u a b (Ok x) → (done x → also y) → Writes also why u a b (Ok y)
  does write gives = record { quiet = write.quiet; begun = write.begun; put = gives write.put }

  -- what failed is told on
  pub told_on : {e : TreeError} (r : Result Y TreeError) → Writes done failed u a b (Err e) → IsErrAnd r (λ x. x ≡ e) → (failed e → why e) → Writes also why u a b r
  told_on (Ok y) write is gives = absurd is
  told_on (Err x) write is gives = record { quiet = write.quiet; begun = write.begun; put = subst why (sym is) (gives write.put) }

-- both were done, and what the second came to is told
module _ {D X Y : Type 0} {g : Ghosts D} {done : X → Type 0} {failed : TreeError → Type 0} {u v : Txn} {a b d : Pages D g} {then also : Y → Type 0} {fails why : TreeError → Type 0} where
  pub then_does : {x : X} (r : Result Y TreeError) → Writes done failed u a b (Ok x) → Writes then fails v b d r
      → ((y : Y) → done x → then y → also y) → ((e : TreeError) → done x → IsQuiet b d → fails e → why e) → Writes also why v a d r
  then_does (Ok y) first next gives needs = record { quiet = quiet_more a b d first.quiet next.quiet; begun = next.begun; put = gives y first.put next.put }
  then_does (Err e) first next gives needs = record { quiet = quiet_more a b d first.quiet next.quiet; begun = next.begun; put = needs e first.put next.quiet next.put }

-- rows were put, and more rows
pub puts_more : {D T S : Type 0} {g : Ghosts D} {t u v : Txn} {a b d : Pages D g} {rows more : List Row} {x : T} (r : Result S TreeError)
    → PutsRows rows t u a b (Ok x) → PutsRows more u v b d r → PutsRows (rows ++ more) t v a d r
puts_more {D} {T} {S} {g} {t} {u} {v} {a} {b} {d} {rows} {more} r first next = search (then_does, more_put, then_not_put)

-- they were not, and so no more of them
pub puts_none : {D T : Type 0} {g : Ghosts D} {t u : Txn} {a b : Pages D g} {rows : List Row} {e : TreeError} (more : List Row) → PutsRows {T = T} rows t u a b (Err e) → PutsRows {T = T} (rows ++ more) t u a b (Err e)
puts_none {D} {T} {g} {t} {u} {a} {b} {rows} {e} more write = record { quiet = write.quiet; begun = write.begun; put = prefix_not_put rows more t a b e write.put }

pub puts_fail : {D T S : Type 0} {g : Ghosts D} {t u : Txn} {a b : Pages D g} {rows : List Row} {e : TreeError} (r : Result S TreeError) → PutsRows {T = T} rows t u a b (Err e) → IsErrAnd r (λ x. x ≡ e) → PutsRows rows t u a b r
puts_fail r write is = told_on r write is (λ why. why)

-- rows were put one after the other
module _ {D T S : Type 0} {g : Ghosts D} {t u v : Txn} {a b d : Pages D g} (row : ℕ → Row) (k : ℕ) {x : T} where
  pub told_puts : {y : S} → PutsRows (rows_told row k) t u a b (Ok x) → PutsRows (row k ∷ []) u v b d (Ok y) → PutsRows (rows_told row (k + 1)) t v a d (Ok x)
  told_puts first next = record { quiet = quiet_more a b d first.quiet next.quiet; begun = next.begun; put = told_more row k t u v a b d first.put next.put }

  pub told_fail : {y : TreeError} {Z : Type 0} (n : ℕ) (r : Result Z TreeError) → k < n → PutsRows (rows_told row k) t u a b (Ok x) → PutsRows {T = S} (row k ∷ []) u v b d (Err y) → IsErrAnd r (λ x. x ≡ y) → PutsRows (rows_told row n) t v a d r
  told_fail {y} {Z} n (Ok z) less first next is = absurd is
  told_fail {y} {Z} n (Err e) less first next is = search (rules, quiet_more a b d first.quiet next.quiet, told_not_put row k n t u a b d y less first.put next.quiet next.put)

-- the rows are these
pub puts_as : {D T : Type 0} {g : Ghosts D} {t u : Txn} {a b : Pages D g} {rows more : List Row} {r : Result T TreeError} → rows ≡ more → PutsRows rows t u a b r → PutsRows more t u a b r
puts_as {D} {T} {g} {t} {u} {a} {b} {rows} {more} {r} same write = subst (λ (rs : List Row). PutsRows rs t u a b r) same write

-- no row was put yet
pub puts_nothing : {D T : Type 0} {g : Ghosts D} {t : Txn} {a : Pages D g} {x : T} → txn_pages t ≡ count_of a → PutsRows [] t t a a (Ok x)
puts_nothing {D} {T} {g} {t} {a} begun = record { quiet = quiet_none a; begun = begun; put = none_put t a }
