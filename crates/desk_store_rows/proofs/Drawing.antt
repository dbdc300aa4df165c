-- Chunks are drawn county by county.
use Rattle.std.{specs.{Cmp.Lexicographic.same_text, Prelude.sum_by}, proofs.lemmas.{Bool.{cases_Bool, not-false}, List.{Elements.{All-cons, All-tail}, Sums.sum_by-cons}}}
use Rattle.std.proofs.Common.{rules, ◌≡◌, ◌⊎◌, ◌<◌, ◌+◌, ℕ, zero, suc, List, [], ◌∷◌, length, get_or, All, refl, ap, ◌∙◌, inl, inr, arith, length-append}
use Rattle.{desk_model.specs.claim.Room.{rows_for, differs}, desk_store_rows.specs.Draws.{RowsAreCounted, FirstsAreDrawn, ChangesAreDrawn, draw, redrawn, draw_all}}
use Rattle.desk_store_rows.{specs.RevisionSteps.{IsChunkList, new_chunk_rows}, proofs.Puts.length-rows_told}

-- a county keeps its chunk where it is as before, or gets one of the new ones
abbrev IsDrawnAt : ℕ → List ℕ → List (List ℕ) → List (List ℕ) → List ℕ → List (List ℕ) → ℕ → Type 0
IsDrawnAt next numbers olds lists drawn news k = ((get_or drawn k 0 ≡ get_or numbers k 0) × (get_or olds k [] ≡ get_or news k []))
    ⊎ ((place : ℕ) × (place < length lists) × (get_or drawn k 0 ≡ next + place) × (get_or lists place [] ≡ get_or news k []))

record Draws (next : ℕ) (numbers : List ℕ) (olds lists : List (List ℕ)) (drawn : List ℕ) (news : List (List ℕ)) : Type 0 where
  count : length drawn ≡ length news
  each : (k : ℕ) → k < length news → IsDrawnAt next numbers olds lists drawn news k
  used : (place : ℕ) → place < length lists → (k : ℕ) × (k < length news) × (get_or drawn k 0 ≡ next + place)
  sound : All IsChunkList news → All IsChunkList lists

-- ---- one county more
module _ (next number : ℕ) (numbers : List ℕ) (old new : List ℕ) (olds lists news : List (List ℕ)) (drawn : List ℕ) where
  kept_one : Draws next numbers olds lists drawn news → old ≡ new → Draws next (number ∷ numbers) (old ∷ olds) lists (number ∷ drawn) (new ∷ news)
  kept_one draws same = record {
    count = ap suc draws.count;
    each = λ k within. search (arith, draws.each);
    used = λ place within. let (k, less, is) = draws.used place within in (suc k, omega arith, is);
    sound = λ all. draws.sound (All-tail IsChunkList new news all);
  }

  new_each : Draws (next + 1) numbers olds lists drawn news → (k : ℕ) → k < length (new ∷ news) → IsDrawnAt next (number ∷ numbers) (old ∷ olds) (new ∷ lists) (next ∷ drawn) (new ∷ news) k
  new_each draws zero within = inr (zero, omega arith, omega arith, refl)
  new_each draws (suc k) within = elim (draws.each k (omega arith)) [
    | inl kept ↦ inl kept
    | inr made ↦ (let place = made.0 in let less = made.1 in let is = made.2 in inr (suc place, omega arith, omega arith, made.3))
  ]

  new_used : Draws (next + 1) numbers olds lists drawn news → (place : ℕ) → place < length (new ∷ lists) → (k : ℕ) × (k < length (new ∷ news)) × (get_or (next ∷ drawn) k 0 ≡ next + place)
  new_used draws zero within = (zero, omega arith, omega arith)
  new_used draws (suc place) within = (let (k, less, is) = draws.used place (omega arith) in (suc k, omega arith, omega arith))

  new_one : Draws (next + 1) numbers olds lists drawn news → Draws next (number ∷ numbers) (old ∷ olds) (new ∷ lists) (next ∷ drawn) (new ∷ news)
  new_one draws = record {
    count = ap suc draws.count;
    each = new_each draws;
    used = new_used draws;
    sound = λ all. All-cons IsChunkList new lists (all 0 new (omega arith)) (draws.sound (All-tail IsChunkList new news all));
  }

all_drawn : (next : ℕ) (numbers : List ℕ) (olds news : List (List ℕ)) → length numbers ≡ length news → length olds ≡ length news → Draws next numbers olds (redrawn olds news) (draw next numbers olds news) news
all_drawn next [] [] [] a b = search arith
all_drawn next (number ∷ numbers) (old ∷ olds) (new ∷ news) a b =
    let lists = redrawn olds news in
    let made = new_one next number numbers old new olds lists news (draw (next + 1) numbers olds news) (all_drawn (next + 1) numbers olds news (omega arith) (omega arith)) in
    let kept = kept_one next number numbers old new olds lists news (draw next numbers olds news) (all_drawn next numbers olds news (omega arith) (omega arith)) in
    search (rules, cases_Bool (differs (old, new)), made, kept, same_text old new, not-false)
all_drawn next _ _ _ a b = absurd (omega arith)

pub changes_drawn : ChangesAreDrawn
changes_drawn m next plan numbers olds news kept same few sound =
    let lists = redrawn olds news in
    let long : length numbers ≡ length news = kept.count ∙ same in
    let draws : Draws next.chunk numbers olds lists (draw next.chunk numbers olds news) news = all_drawn next.chunk numbers olds news long same in
    record {
      few = (let count = draws.count in omega arith);
      count = draws.count;
      sound = draws.sound sound;
      each = λ k within. search (arith, draws.each k within, kept.each k (omega arith));
      used = draws.used;
    }

-- ---- the first revision
all_at : (next : ℕ) (news : List (List ℕ)) (k : ℕ) → k < length news → get_or (draw_all next news) k 0 ≡ next + k
all_at next [] k within = absurd (omega arith)
all_at next (new ∷ news) k within = search (arith, all_at (next + 1) news)

length-draw_all : (next : ℕ) (news : List (List ℕ)) → length (draw_all next news) ≡ length news
length-draw_all next [] = refl
length-draw_all next (new ∷ news) = ap suc (length-draw_all (next + 1) news)

pub firsts_drawn : FirstsAreDrawn
firsts_drawn m next plan counties few sound =
    let count = length-draw_all next.chunk counties in
    record {
      few = omega arith;
      count = count;
      sound = sound;
      each = λ k within. inr (record { place = k; within = within; is = all_at next.chunk counties k within; same = refl });
      used = λ place within. (place, within, all_at next.chunk counties place within);
    }

-- ---- how many rows
rows_of_chunks : (first : ℕ) (lists : List (List ℕ)) → length (new_chunk_rows first lists) ≡ sum_by (λ part. rows_for 512 (length part)) lists
rows_of_chunks first [] = refl
rows_of_chunks first (districts ∷ lists) = search (length-append, length-rows_told, (rows_of_chunks (first + 1) lists), sum_by-cons)

pub rows_counted : RowsAreCounted
rows_counted g last new next name p numbers long = search (rules, length-append, length-rows_told, rows_of_chunks)
