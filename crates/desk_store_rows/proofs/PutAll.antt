-- Rows that are put one after the other, where of each is known which rows it is of.
use Rattle.std.{specs.FinMap.{get, insert}, proofs.Common.{◌≡◌, ◌⊎◌, ◌<◌, ℕ, zero, suc, List, [], ◌∷◌, All, Some, refl, sym, subst, inr, arith, ◌≤◌, ◌*◌, ◌^◌, length}}
use Rattle.{std.proofs.lemmas.List.Elements.{All-nil, All-push, All-tail}, desk_model.specs.claim.Room.rows_for, desk_store_rows.specs.NameRows.{name_row, name_rows}}
use Rattle.desk_store_rows.{specs.{Puts.rows_told, claim.{Keys.{RowKey, key_of, Fits, part}, Puts.{Row, put_rows}, Rows.{KeyMap, row_in}, Tidy.AreRows}}, proofs.Changes.cases_key}
use Rattle.desk_store_rows.proofs.{Frames.{put_is_there, put_keeps}, NameRows.few_names, OneGeography.value_is, RowLaws.keys_differ, TidyParts.rows_put}

-- the row has the key of a row of which this holds
pub record IsRowOf (Q : RowKey → Type 0) (row : Row) : Type 0 where
  pub key : RowKey
  pub fits : Fits key
  pub is : row.0 ≡ key_of key
  pub holds : Q key

pub is_row : (Q : RowKey → Type 0) (key : RowKey) (value : List ℕ) → Fits key → Q key → IsRowOf Q (key_of key, value)
is_row Q key value fits holds = record { key = key; fits = fits; is = refl; holds = holds }

pub told_all : (P : Row → Type 0) (row : ℕ → Row) (count : ℕ) → ((k : ℕ) → k < count → P (row k)) → All P (rows_told row count)
told_all P row zero each = All-nil P
told_all P row (suc count) each = All-push P (rows_told row count) (row count) (told_all P row count (λ k less. each k (omega arith))) (each count (omega arith))

-- the rows of a revision's parts
pub names_are : (Q : RowKey → Type 0) (plan revision : ℕ) (numbers : List ℕ) → plan < 2 ^ 64 → revision < 2 ^ 32 → length numbers ≤ 128 * 2 ^ 8 → ((k : ℕ) → Q (part plan revision k)) → All (IsRowOf Q) (name_rows plan revision numbers)
names_are Q plan revision numbers fits small few holds =
    told_all (IsRowOf Q) (name_row plan revision numbers) (rows_for 128 (length numbers)) (λ k less. is_row Q (part plan revision k) _ (fits, small, few_names (length numbers) k few less) (holds k))

-- a key that none of them can have keeps what it has
pub keeps_key : (Q : RowKey → Type 0) (m : KeyMap) (rows : List Row) (key : List ℕ) → All (IsRowOf Q) rows → ((k : RowKey) → Fits k → Q k → key ≡ key_of k → ⊥) → get (put_rows m rows) key ≡ get m key
keeps_key Q m [] key all apart = refl
keeps_key Q m (row ∷ rows) key all apart =
    let first : IsRowOf Q row = all 0 row (omega arith) in
    search (arith, keeps_key Q (insert m row.0 row.1) rows key, All-tail (IsRowOf Q) row rows all, put_keeps, apart first.key first.fits first.holds)

pub keeps_row : (Q : RowKey → Type 0) (m : KeyMap) (rows : List Row) (other : RowKey) → All (IsRowOf Q) rows → Fits other → (Q other → ⊥) → row_in (put_rows m rows) other ≡ row_in m other
keeps_row Q m rows other all other_fits apart = keeps_key Q m rows (key_of other) all (λ k fits holds same. apart (rw (← keys_differ other k other_fits fits same) at holds))

pub keeps_rows : (Q : RowKey → Type 0) (m : KeyMap) (rows : List Row) → All (IsRowOf Q) rows → AreRows m → AreRows (put_rows m rows)
keeps_rows Q m [] all are = are
keeps_rows Q m (row ∷ rows) all are =
    let first : IsRowOf Q row = all 0 row (omega arith) in
    let one : AreRows (insert m row.0 row.1) = subst (λ (k : List ℕ). AreRows (insert m k row.1)) (sym first.is) (rows_put m first.key row.1 first.fits are) in
    keeps_rows Q (insert m row.0 row.1) rows (All-tail (IsRowOf Q) row rows all) one

-- what stands under a key was there, or is of a row that was put
pub tells_value : (P : Row → Type 0) (m : KeyMap) (rows : List Row) (key value : List ℕ) → All P rows → get (put_rows m rows) key ≡ Some value → ((row : Row) × P row × (row.1 ≡ value)) ⊎ (get m key ≡ Some value)
tells_value P m [] key value all there = inr there
tells_value P m (row ∷ rows) key value all there = search (arith, tells_value P (insert m row.0 row.1) rows key value (All-tail P row rows all) there, cases_key key row.0, all 0 row, value_is, put_is_there, put_keeps)
