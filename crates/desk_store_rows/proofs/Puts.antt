-- Lemmas on the definitions of Puts.
use Rattle.{std.{specs.FinMap.{get, insert}, proofs.lemmas.{Bool.cases_eq, List.append-nil}}, desk_store_rows.specs.{Puts.rows_told, claim.{Puts.{Row, put_rows}, Rows.KeyMap}}}
use Rattle.std.proofs.Common.{◌≡◌, ◌<◌, ◌≤◌, ℕ, zero, suc, List, [], ◌∷◌, ◌++◌, length, Some, refl, sym, ap, ◌∙◌, inl, inr, arith, length-append, append_assoc}
use Rattle.desk_store_rows.proofs.Frames.{put_is_there, put_keeps}

pub put_rows-append : (m : KeyMap) (rows more : List Row) → put_rows m (rows ++ more) ≡ put_rows (put_rows m rows) more
put_rows-append m [] more = refl
put_rows-append m (row ∷ rows) more = put_rows-append (insert m row.0 row.1) rows more

pub length-rows_told : (row : ℕ → Row) (count : ℕ) → length (rows_told row count) ≡ count
length-rows_told row zero = refl
length-rows_told row (suc count) = let before = length-rows_told row count in simp length-append (omega arith)

-- the first k of them begin the first n
pub told_prefix : (row : ℕ → Row) (k n : ℕ) → k ≤ n → (rest : List Row) × (rows_told row k ++ rest ≡ rows_told row n)
told_prefix row zero zero few = ([], refl)
told_prefix row (suc k) zero few = absurd (omega arith)
told_prefix row k (suc n) few = elim (cases_eq k (suc n)) [
  | inl same ↦ ([], append-nil (rows_told row k) ∙ ap (rows_told row) same)
  | inr other ↦ (let before = told_prefix row k n (omega arith) in (before.0 ++ row n ∷ [], sym (append_assoc (rows_told row k) before.0 (row n ∷ [])) ∙ ap (λ l. l ++ row n ∷ []) before.1))
]

-- a key that none of them has keeps what it has
pub told_keep : (m : KeyMap) (row : ℕ → Row) (count : ℕ) (key : List ℕ) → ((k : ℕ) → k < count → key ≡ (row k).0 → ⊥) → get (put_rows m (rows_told row count)) key ≡ get m key
told_keep m row zero key apart = refl
told_keep m row (suc count) key apart =
    ap (λ n. get n key) (put_rows-append m (rows_told row count) (row count ∷ []))
    ∙ put_keeps (put_rows m (rows_told row count)) (row count).0 (row count).1 key (apart count (omega arith))
    ∙ told_keep m row count key (λ k less. apart k (omega arith))

-- and each of them is there, where no two have one key
pub told_are : (m : KeyMap) (row : ℕ → Row) (count : ℕ) (k : ℕ) → ((i j : ℕ) → i < count → j < count → (row i).0 ≡ (row j).0 → i ≡ j) → k < count → get (put_rows m (rows_told row count)) (row k).0 ≡ Some (row k).1
told_are m row zero k apart within = absurd (omega arith)
told_are m row (suc count) k apart within =
    let before = put_rows m (rows_told row count) in
    search (arith, put_rows-append, cases_eq k count, put_is_there before, put_keeps before, apart k count, told_are m row count k)
