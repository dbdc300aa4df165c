-- The first key that isn't below another, and chunks by their numbers.
use Rattle.std.specs.{Cmp.nat_cmp_is, FinMap.{entries, get}, List.starts_with, Ordering.{nat_cmp, is_gt}, Prelude.{Result, Ok, Err}, declared.cmp.Ordering.Ordering}
use Rattle.std.{specs.declared.cmp.Ordering.TheVariants.{Less, Equal, Greater}, proofs.lemmas.{Bool.{cases_lt, Decides.nat_tests}, List.nil_from_length}}
use Rattle.std.proofs.Common.{zero, suc, get_or, ◌≡◌, ◌<◌, ◌≤◌, ◌^◌, ◌++◌, ℕ, List, [], ◌∷◌, Bool, true, false, nat_eq, length, drop, Some, None, refl, sym, ap, subst, ◌∙◌, inl, inr, arith}
use Rattle.{desk_store_pages.specs.Looking.Looks, desk_store_rows.specs.claim.{Keys.{key_of, Fits, chunk, in_two, chunk_prefix}, Rows.KeyMap, Tidy.AreRows}}
use Rattle.page_btree.specs.{gets.{Seeking.{AreLeaves, IsFrom}, claim.Map.InTxn, declared.{error.TreeError.TreeError, seeks.Leaf.Leaf}}, node.Places.entries_from}
use Rattle.{page_btree.specs.node.{Walking.IsAhead, claim.{Entries.Entry, Node.IsNode, Places.key_cmp}}, page_store.specs.claim.Transactions.{stored, disk_in, Passed}}
use Rattle.{page_store.specs.declared.{pages.Pages.Pages, txn.Txn.Txn}, plan_revisions_sweeps.specs.Finding.{IsCopiedKey, IsLeast, IsFirstFrom, IsNextChunk, IsPieceKey, IsSought}}
use Rattle.{sector_device.specs.declared.SectorDevice.Ghosts, btree_scan.proofs.{Prefixes.under_is_from, Ready.no_others as no_leaves}, desk_store_rows.proofs.Frames.either_way}
use Rattle.{btree_scan.proofs.RowsFound.{first_is_from, first_least, first_there}, desk_store_pages.proofs.Looking.{looked, not_looked}}
use Rattle.desk_store_rows.proofs.{KeyPrefixes.starts_itself, Numbers.numbers_decide, TidyParts.some_or_none}
use Rattle.page_btree.proofs.node.Walking.{node_ahead}

-- ---- entries from a key on
pub least_found : (m : KeyMap) (key : List ℕ) (e : Entry) (rest : List Entry) → entries_from key (entries m) ≡ e ∷ rest → (found : List ℕ) → found ≡ e.0 → IsLeast key found m
least_found m key e rest whole found same = subst (λ (k : List ℕ). IsLeast key k m) (sym same)
    (record { value = e.1; there = first_there m key e rest whole; from = first_is_from m key e rest whole; first = first_least m key e rest whole })

-- ---- the leaf that stands there
pub record IsAt (key : List ℕ) (all : List Entry) (page : List ℕ) (place : ℕ) : Type 0 where
  pub e : Entry
  pub es : List Entry
  pub rest : List Entry
  pub ahead : IsAhead page place (e ∷ es)
  pub whole : entries_from key all ≡ e ∷ rest

pub leaf_none : (key : List ℕ) (all : List Entry) (held : Leaf) (pages : List (List ℕ)) → IsFrom key all held pages → held.left ≡ 0 → held.more ≡ 0 → entries_from key all ≡ []
leaf_none key all held pages is none last = is.rows_are ∙ (λ i. nil_from_length is.here (sym is.left_is ∙ none) i ++
    (no_leaves held.more (drop 1 pages) is.others last is.others_are i ++ is.some none last i))

pub leaf_some : (key : List ℕ) (all : List Entry) (held : Leaf) (pages : List (List ℕ)) → IsFrom key all held pages → 0 < held.left → IsAt key all (get_or pages 0 []) held.at
leaf_some key all held pages is some = at is.here is.left_is is.ahead is.rows_are
  where
    at : (here : List Entry) → held.left ≡ length here → IsAhead (get_or pages 0 []) held.at here → entries_from key all ≡ here ++ (is.others ++ is.after) → IsAt key all (get_or pages 0 []) held.at
    at [] left ahead whole = absurd (omega arith)
    at (e ∷ es) left ahead whole = record { e = e; es = es; rest = es ++ (is.others ++ is.after); ahead = ahead; whole = whole }

-- or the first of those that were read with it
pub leaf_next : (key : List ℕ) (all : List Entry) (held : Leaf) (pages : List (List ℕ)) → IsFrom key all held pages → held.left ≡ 0 → 0 < held.more → IsAt key all (get_or pages 1 []) 4
leaf_next key all held pages is none some = by held.more pages is.others some is.others_are
    (is.rows_are ∙ ap (λ (l : List Entry). l ++ (is.others ++ is.after)) (nil_from_length is.here (sym is.left_is ∙ none)))
  where
    first : (page : List ℕ) (es rest : List Entry) → IsNode page (record { level = 0; entries = es }) → 0 < length es → entries_from key all ≡ (es ++ rest) ++ is.after → IsAt key all page 4
    first page [] rest node long whole = absurd (omega arith)
    first page (e ∷ es) rest node long whole = record { e = e; es = es; rest = (es ++ rest) ++ is.after; ahead = node_ahead page (record { level = 0; entries = e ∷ es }) node; whole = whole }

    by : (k : ℕ) (ps : List (List ℕ)) (others : List Entry) → 0 < k → AreLeaves k (drop 1 ps) others → entries_from key all ≡ others ++ is.after → IsAt key all (get_or ps 1 []) 4
    by zero ps others less leaves whole = absurd (omega arith)
    by (suc k) [] others less leaves whole = absurd leaves
    by (suc k) (p ∷ []) others less leaves whole = absurd leaves
    by (suc k) (p ∷ q ∷ ps) others less leaves whole = first q leaves.0 leaves.1 leaves.3 leaves.5 (whole ∙ ap (λ (l : List Entry). l ++ is.after) leaves.2)

-- the first key that isn't below a key was copied, or the row there is none of a store
pub copied_at : {D : Type 0} {g : Ghosts D} {t : Txn} {a b : Pages D g} (key page : List ℕ) (place : ℕ) (found : List ℕ) (r : Result Bool TreeError) → Passed a b
    → ((disk_in b).is_honest → (m : KeyMap) → InTxn t (stored a) m → IsAt key (entries m) page place) → IsCopiedKey page place found r → Looks (IsFirstFrom key found) (λ m. Unit {0}) t a b r
copied_at key page place found (Ok is) passed at copied = search (arith, looked, copied.0, least_found, copied.1)
copied_at {D} {g} {t} {a} {b} key page place found (Err e) passed at copied = search (arith, not_looked, passed.quiet, copied.0, copied.1)

-- ---- the order of chunks' keys
prefix_same : (o : Ordering) → (o ≡ Equal → ⊥) → (a b x y : List ℕ) → length a ≡ length b → key_cmp a b ≡ o → key_cmp (a ++ x) (b ++ y) ≡ o
prefix_same o some [] [] x y same h = absurd (some (sym h))
prefix_same o some [] (q ∷ b) x y same h = absurd (omega arith)
prefix_same o some (p ∷ a) [] x y same h = absurd (omega arith)
prefix_same o some (p ∷ a) (q ∷ b) x y same h = search (arith, (prefix_same o some a b x y (omega arith)))

chunk_cmp : (o : Ordering) → (o ≡ Equal → ⊥) → (a b : ℕ) (x y : List ℕ) → a < 2 ^ 64 → b < 2 ^ 64 → nat_cmp a b ≡ o → key_cmp (chunk_prefix a ++ x) (chunk_prefix b ++ y) ≡ o
chunk_cmp o some a b x y fa fb is = prefix_same o some (chunk_prefix a) (chunk_prefix b) x y refl ((numbers_decide (107 ∷ []) a b).2 fa fb ∙ is)

-- a piece of a chunk from a number on isn't below that number's keys
piece_from : (number other piece : ℕ) → number < 2 ^ 64 → other < 2 ^ 64 → number ≤ other → is_gt (key_cmp (chunk_prefix number) (key_of (chunk other piece))) ≡ false
piece_from number other piece fits other_fits least = elim (cases_lt number other) [
  | inl less ↦ ap is_gt (chunk_cmp Less (λ e. cc) number other [] (in_two piece) fits other_fits (sym (nat_cmp_is number other Less less)))
  | inr not ↦ under_is_from (chunk_prefix number) (key_of (chunk other piece))
      (subst (λ (k : ℕ). starts_with nat_eq (key_of (chunk other piece)) (chunk_prefix k) ≡ true) (omega arith) (starts_itself (chunk_prefix other) (in_two piece)))
]

-- ---- the next chunk
-- a first key from a chunk's on is that of a piece
pub record IsPieceRow (number : ℕ) (key : List ℕ) : Type 0 where
  pub next : ℕ
  pub piece : ℕ
  pub fits : Fits (chunk next piece)
  pub key_is : key ≡ key_of (chunk next piece)

module _ (m : KeyMap) where
  pub least_piece : (number : ℕ) (key : List ℕ) → AreRows m → IsLeast (chunk_prefix number) key m → IsPieceRow number key
  least_piece number key rows least = let (row, fits, same) = rows key least.value least.there in (search (arith))

  not_below : (number next piece : ℕ) → number < 2 ^ 64 → next < 2 ^ 64 → is_gt (key_cmp (chunk_prefix number) (key_of (chunk next piece))) ≡ false → number ≤ next
  not_below number next piece fits next_fits from = search (arith, either_way, nat_tests, chunk_cmp)

  pub next_some : (number next : ℕ) (key : List ℕ) → number < 2 ^ 64 → IsLeast (chunk_prefix number) key m → IsPieceKey next key → IsNextChunk number key m (Some next)
  next_some number next key fits least is = (
    not_below number next is.piece fits is.fits.0 (subst (λ (k : List ℕ). is_gt (key_cmp (chunk_prefix number) k) ≡ false) is.key_is least.from),
    is,
    λ other from below other_fits index small. some_or_none (get m (key_of (chunk other index))) (λ value there.
        let above = least.first (key_of (chunk other index)) value there (piece_from number other index fits other_fits from) in
        let more : is_gt (key_cmp key (key_of (chunk other index))) ≡ true = ap (λ (k : List ℕ). is_gt (key_cmp k (key_of (chunk other index)))) is.key_is ∙ ap is_gt (chunk_cmp Greater (λ e. cc) next other (in_two is.piece) (in_two index) is.fits.0 other_fits (sym (nat_cmp_is next other Greater below))) in
        cc),
  )

  pub next_none : (number : ℕ) (key : List ℕ) → number < 2 ^ 64 → IsFirstFrom (chunk_prefix number) key m false → IsNextChunk number key m None
  next_none number key fits none = λ other from below other_fits index small. some_or_none (get m (key_of (chunk other index))) (λ value there. none (key_of (chunk other index)) value there (piece_from number other index fits other_fits from))

  -- what is looked for is there, or the next one is a later one
  pub sought_next : (number next : ℕ) (key : List ℕ) → number < 2 ^ 64 → IsNextChunk number key m (Some next) → (b : Bool) → nat_eq next number ≡ b → IsSought number (record { from = number; to = next; ends = true }) key m b
  sought_next number next key fits is b told = search (arith, nat_tests, is.2)
