-- Lemmas on the definitions of ChunkRows.
use Rattle.std.proofs.Common.{rules, ◌≡◌, ◌<◌, ◌≤◌, ◌*◌, ◌^◌, ℕ, cond, List, length, take, drop, All, Some, None, sym, ap, ◌∙◌, inl, inr, arith, ◌+◌, min, zero, suc, [], ◌∷◌, get_or, refl, subst, length-take, length-drop}
use Rattle.{std.proofs.lemmas.{Bool.{cases_lt, lt-ltb, le-ltb}, List.Elements.{All-nil, All-append, All-take, All-drop, All-tail}}, desk_model.specs.claim.Room.rows_for}
use Rattle.desk_store_rows.specs.{ChunkRows.{IsFreeChunk, chunk_rows, piece_row}, RevisionSteps.{IsChunkList, new_chunk_rows}, claim.{Keys.{key_of, chunk}, Lists.districts_bytes}}
use Rattle.desk_store_rows.{specs.claim.{Puts.put_rows, RevisionRows.HasChunk, Rows.KeyMap, Tidy.IsPiece}, proofs.{PutAll.told_all, Puts.{told_keep, told_are, put_rows-append}}}
use Rattle.desk_store_rows.proofs.RowLaws.{keys_differ}

pub one_piece : (number i j : ℕ) → number < 2 ^ 64 → i < 2 ^ 16 → j < 2 ^ 16 → key_of (chunk number i) ≡ key_of (chunk number j) → i ≡ j
one_piece number i j fits small few same = search (rules, keys_differ)

pub one_number : (number other i j : ℕ) → number < 2 ^ 64 → other < 2 ^ 64 → i < 2 ^ 16 → j < 2 ^ 16 → key_of (chunk number i) ≡ key_of (chunk other j) → number ≡ other
one_number number other i j fits other_fits small few same = search (rules, keys_differ)

pub few_rows : (n i : ℕ) → n ≤ 512 * 2 ^ 16 → i < rows_for 512 n → i < 2 ^ 16
few_rows n i few less = omega arith

-- once its rows are put under a free number, the chunk is there
pub chunk_put : (m : KeyMap) (number : ℕ) (districts : List ℕ) → number < 2 ^ 64 → 0 < length districts → length districts ≤ 512 * 2 ^ 16 → All (λ d. d < 2 ^ 16) districts → IsFreeChunk m number → HasChunk (put_rows m (chunk_rows number districts)) number districts
chunk_put m number districts fits some few each free = record {
  number_fits = fits;
  some = some;
  few = few;
  each = each;
  pieces = λ index small. elim (cases_lt index (rows_for 512 (length districts))) [
    | inl less ↦ told_are m (piece_row number districts) (rows_for 512 (length districts)) index
        (λ i j one other same. one_piece number i j fits (few_rows (length districts) i few one) (few_rows (length districts) j few other) same) less
        ∙ sym (ap (λ b. cond b (Some (districts_bytes (take 512 (drop (512 * index) districts)))) None) (lt-ltb (512 * index) (length districts) (omega arith)))
    | inr more ↦ search (rules, told_keep, one_piece, few_rows, le-ltb)
  ];
}

-- a chunk with another number stays
pub chunk_kept : (m : KeyMap) (number : ℕ) (districts : List ℕ) (other : ℕ) (others : List ℕ) → number < 2 ^ 64 → length districts ≤ 512 * 2 ^ 16 → (other ≡ number → ⊥) → HasChunk m other others → HasChunk (put_rows m (chunk_rows number districts)) other others
chunk_kept m number districts other others fits few apart has = search (has.number_fits, has.some, has.few, has.each, told_keep, m, apart, one_number, few_rows, few, has.pieces)

-- and so does a number that is free
pub free_kept : (m : KeyMap) (number : ℕ) (districts : List ℕ) (other : ℕ) → number < 2 ^ 64 → other < 2 ^ 64 → length districts ≤ 512 * 2 ^ 16 → (other ≡ number → ⊥) → IsFreeChunk m other → IsFreeChunk (put_rows m (chunk_rows number districts)) other
free_kept m number districts other fits other_fits few apart free index small = search (told_keep, one_number, few_rows)

-- ---- New chunks that are put under free numbers, one after the other, are there.
-- a chunk with a lower number stays
lower_stays : (m : KeyMap) (first : ℕ) (lists : List (List ℕ)) (number : ℕ) (others : List ℕ) → All IsChunkList lists → first + length lists < 2 ^ 64 → number < first → HasChunk m number others → HasChunk (put_rows m (new_chunk_rows first lists)) number others
lower_stays m first [] number others sound room less has = has
lower_stays m first (districts ∷ lists) number others sound room less has =
    let list = sound 0 districts (omega arith) in
    rw put_rows-append (lower_stays (put_rows m (chunk_rows first districts)) (first + 1) lists number others (All-tail IsChunkList districts lists sound) (omega arith) (omega arith)
    (chunk_kept m first districts number others (omega arith) list.few (λ same. absurd (omega arith)) has))

pub new_there : (m : KeyMap) (first : ℕ) (lists : List (List ℕ)) (place : ℕ) → All IsChunkList lists → first + length lists < 2 ^ 64 → ((number : ℕ) → first ≤ number → number < 2 ^ 64 → IsFreeChunk m number) → place < length lists
    → HasChunk (put_rows m (new_chunk_rows first lists)) (first + place) (get_or lists place [])
new_there m first [] place sound room free within = absurd (omega arith)
new_there m first (districts ∷ lists) zero sound room free within =
    let one = put_rows m (chunk_rows first districts) in
    let first_fits : first < 2 ^ 64 = omega arith in
    let list = sound 0 districts (omega arith) in
    let here : HasChunk one first districts = chunk_put m first districts first_fits list.some list.few list.each (free first (omega arith) first_fits) in
    subst (λ (n : KeyMap). HasChunk n (first + 0) districts) (sym (put_rows-append m (chunk_rows first districts) (new_chunk_rows (first + 1) lists)))
    (search (arith, lower_stays one (first + 1) lists first districts (All-tail IsChunkList districts lists sound) (omega arith) (omega arith) here))
new_there m first (districts ∷ lists) (suc place) sound room free within =
    let one = put_rows m (chunk_rows first districts) in
    let first_fits : first < 2 ^ 64 = omega arith in
    subst (λ (n : KeyMap). HasChunk n (first + suc place) (get_or lists place [])) (sym (put_rows-append m (chunk_rows first districts) (new_chunk_rows (first + 1) lists)))
    (subst (λ (k : ℕ). HasChunk (put_rows one (new_chunk_rows (first + 1) lists)) k (get_or lists place [])) (omega arith)
    (new_there one (first + 1) lists place (All-tail IsChunkList districts lists sound) (omega arith)
    (λ number more fits. free_kept m first districts number first_fits fits (sound 0 districts (omega arith)).few (λ equal. absurd (omega arith)) (free number (omega arith) fits))
    (omega arith)))

-- each row of them is a piece
piece_is : (districts : List ℕ) (index : ℕ) → IsChunkList districts → index < rows_for 512 (length districts) → IsPiece (districts_bytes (take 512 (drop (512 * index) districts)))
piece_is districts index list less =
    let count = length-take 512 (drop (512 * index) districts) ∙ ap (min 512) (length-drop (512 * index) districts) in (
      take 512 (drop (512 * index) districts),
      search (arith, All-take, All-drop),
      refl,
    )

pub pieces_are : (first : ℕ) (lists : List (List ℕ)) → All IsChunkList lists → All (λ row. IsPiece row.1) (new_chunk_rows first lists)
pieces_are first [] sound = All-nil (λ row. IsPiece row.1)
pieces_are first (districts ∷ lists) sound =
    All-append (λ row. IsPiece row.1) (chunk_rows first districts) (new_chunk_rows (first + 1) lists)
    (told_all (λ row. IsPiece row.1) (piece_row first districts) (rows_for 512 (length districts)) (λ k less. piece_is districts k (sound 0 districts (omega arith)) less))
    (pieces_are (first + 1) lists (All-tail IsChunkList districts lists sound))
