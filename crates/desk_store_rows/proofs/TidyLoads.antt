-- Loads are begun, staged and sealed, and the rows stay tidy.
use Rattle.std.{specs.FinMap.{insert, remove}, proofs.Common.{rules, ◌≡◌, ◌<◌, ◌+◌, ◌^◌, ℕ, suc, List, [], ◌∷◌, ◌++◌, All, None, refl, sym, ap, subst, ◌∙◌, inl, inr, arith}}
use Rattle.{std.proofs.lemmas.Bool.cases_eq, desk_model.specs.claim.Geography.GeographyModel, desk_store_rows.specs.{Rows.SameTag, Steps.{one_load_more, IsLoadKey}, Tidy.TidyWith}}
use Rattle.desk_store_rows.specs.claim.{GeographyRows.IsStaged, Keys.{RowKey, key_of, Fits, counters, begun, seal, block, pair, in_eight, in_four}, Puts.{Row, put_rows}}
use Rattle.desk_store_rows.specs.{claim.{Rows.{KeyMap, row_in, Has, Lacks}, Tidy.{IsLoad, Tidy}, Values.{seal_bytes, counters_bytes}}, declared.value.SealRow.SealRow}
use Rattle.desk_store_rows.proofs.{Changes.cases_key, OneGeography.{value_is, no_value, seal_load}, RowLaws.keys_differ, Staging.none_staged, TidyFree.numbers_free}
use Rattle.desk_store_rows.proofs.Frames.{put_is_there, put_keeps, put_keeps_tag, put_keeps_row, removed_is_gone, remove_keeps_row, remove_keeps_tag, tag_follows}
use Rattle.desk_store_rows.proofs.TidyParts.{load_moves, LoadsKept, kept_of, rows_put, rows_removed, counters_put, stays_tidy, loads_kept}

-- ---- a load is begun
module _ (m : KeyMap) (limit : ℕ) (kept : LoadsKept m limit) (fits : limit < 2 ^ 64) where
  abbrev started : KeyMap
  started = insert m (key_of (begun limit)) []

  started_seal : SameTag 83 m started
  started_seal = put_keeps_tag m 83 76 _ [] (λ e. absurd (omega arith))

  started_rows : SameTag 103 m started
  started_rows = put_keeps_tag m 103 76 _ [] (λ e. absurd (omega arith))

  others_begun : (load : ℕ) → load < 2 ^ 64 → (load ≡ limit → ⊥) → row_in started (begun load) ≡ row_in m (begun load)
  others_begun load few apart = put_keeps_row m (begun limit) [] (begun load) fits few (λ e. apart (cc))

  load_there : (load : ℕ) → load < 2 ^ 64 → IsLoad m load → IsLoad started load
  load_there load few given = search (arith, started_seal, kept.below, others_begun)

  loads_started : LoadsKept started (limit + 1)
  loads_started = record {
    below = λ load value few there. search (arith, cases_eq, kept.below, others_begun);
    sealed_below = λ sealed few there. let below = kept.sealed_below sealed few (sym (started_seal _) ∙ there) in omega arith;
    blocks = λ load place value few there. load_there load few.0 (kept.blocks load place value few (sym (started_rows _) ∙ there));
    pairs = λ load place value few there. load_there load few.0 (kept.pairs load place value few (sym (started_rows _) ∙ there));
    ended = λ sealed few there. search (arith, started_seal, others_begun, sealed.load, kept.ended);
  }

pub begun_tidy : (m : KeyMap) (tidy : Tidy m) → tidy.next.load + 1 < 2 ^ 64
    → TidyWith (insert (insert m (key_of (begun tidy.next.load)) []) (key_of counters) (counters_bytes (one_load_more tidy.next))) (one_load_more tidy.next) tidy.new
begun_tidy m tidy room =
    let next = tidy.next in
    let kept = kept_of m tidy in
    let n = insert m (key_of (begun next.load)) [] in
    let same = λ (tag : ℕ) (apart : tag ≡ 76 → ⊥). put_keeps_tag m tag 76 (in_eight next.load) [] apart in
    counters_put n (one_load_more next) tidy.new (record { plan_fits = tidy.fits.plan_fits; chunk_fits = tidy.fits.chunk_fits; load_fits = room }) (loads_kept m n tidy (one_load_more next) (omega arith) (omega arith) (λ tag a b c. same tag a) (rows_put m (begun next.load) [] tidy.fits.load_fits kept.rows) (loads_started m next.load kept.loads tidy.fits.load_fits))

-- no row stands under its number
pub begun_unstaged : (m : KeyMap) (tidy : Tidy m) (g : GeographyModel) → IsStaged (insert (insert m (key_of (begun tidy.next.load)) []) (key_of counters) (counters_bytes (one_load_more tidy.next))) tidy.next.load g 0
begun_unstaged m tidy g =
    let load = tidy.next.load in
    let value = counters_bytes (one_load_more tidy.next) in
    let mid = insert m (key_of (begun load)) [] in
    let n = insert mid (key_of counters) value in
    let rows : SameTag 103 m n = tag_follows 103 m mid n (put_keeps_tag m 103 76 (in_eight load) [] (λ e. absurd (omega arith))) (put_keeps_tag mid 103 65 [] value (λ e. absurd (omega arith))) in
    none_staged n load g
    (λ place small. rows _ ∙ (numbers_free m tidy).blocks load place (omega arith) (tidy.fits.load_fits, small))
    (λ place small. rows _ ∙ (numbers_free m tidy).pairs load place (omega arith) (tidy.fits.load_fits, small))

-- ---- a row of a load is put
-- what stands under a key then is the row, of the load, or stood there
row_or_there : (m : KeyMap) (load other : ℕ) (row there : RowKey) (value got : List ℕ) → Fits row → Fits there → IsLoad m load → (there ≡ row → other ≡ load) → (Has m there got → IsLoad m other) → Has (insert m (key_of row) value) there got → IsLoad m other
row_or_there m load other row there value got row_fits fits is same before has = elim (cases_key (key_of there) (key_of row)) [
  | inl equal ↦ subst (λ k. IsLoad m k) (sym (same (keys_differ there row fits row_fits equal))) is
  | inr apart ↦ before (sym (put_keeps m (key_of row) value (key_of there) apart) ∙ has)
]

-- a row of a load is that of a block or of a pair of the load
load_row_tidy : (m : KeyMap) (tidy : Tidy m) (load : ℕ) (row : RowKey) (rest value : List ℕ) → key_of row ≡ 103 ∷ rest → Fits row → IsLoad m load
    → ((other place : ℕ) → block other place ≡ row → other ≡ load) → ((other place : ℕ) → pair other place ≡ row → other ≡ load) → TidyWith (insert m (key_of row) value) tidy.next tidy.new
load_row_tidy m tidy load row rest value tagged fits is block_load pair_load =
    let next = tidy.next in
    let kept = kept_of m tidy in
    let n = insert m (key_of row) value in
    let same = λ (tag : ℕ) (apart : tag ≡ 103 → ⊥). subst (λ (k : List ℕ). SameTag tag m (insert m k value)) (sym tagged) (put_keeps_tag m tag 103 rest value apart) in
    let seals : SameTag 83 m n = same 83 (λ e. absurd (omega arith)) in
    let marks : SameTag 76 m n = same 76 (λ e. absurd (omega arith)) in
    let loads : LoadsKept n next.load = record {
      below = λ other got few there. kept.loads.below other got few (sym (marks _) ∙ there);
      sealed_below = λ sealed few there. kept.loads.sealed_below sealed few (sym (seals _) ∙ there);
      blocks = λ other place got few there. load_moves m n other seals marks (row_or_there m load other row (block other place) value got fits few is (block_load other place) (kept.loads.blocks other place got few) there);
      pairs = λ other place got few there. load_moves m n other seals marks (row_or_there m load other row (pair other place) value got fits few is (pair_load other place) (kept.loads.pairs other place got few) there);
      ended = λ sealed few there. marks _ ∙ kept.loads.ended sealed few (sym (seals _) ∙ there);
    } in
    stays_tidy m n tidy (same 65 (λ e. absurd (omega arith)) []) (loads_kept m n tidy next (omega arith) (omega arith) (λ tag a b c. same tag c) (rows_put m row value fits kept.rows) loads)

-- ---- rows of a load, one after the other
one_staged : (m : KeyMap) (tidy : Tidy m) (load : ℕ) (key value : List ℕ) → load < 2 ^ 64 → IsLoad m load → IsLoadKey load key → TidyWith (insert m key value) tidy.next tidy.new
one_staged m tidy load key value fits is (inl (place, few, same)) = subst (λ (k : List ℕ). TidyWith (insert m k value) tidy.next tidy.new) (sym same)
    (load_row_tidy m tidy load (block load place) (in_eight load ++ (98 ∷ in_four place)) value refl (fits, few) is (λ other at e. cc) (λ other at e. cc))
one_staged m tidy load key value fits is (inr (place, few, same)) = subst (λ (k : List ℕ). TidyWith (insert m k value) tidy.next tidy.new) (sym same)
    (load_row_tidy m tidy load (pair load place) (in_eight load ++ (112 ∷ in_four place)) value refl (fits, few) is (λ other at e. cc) (λ other at e. cc))

still_there : (m : KeyMap) (load other : ℕ) (key value : List ℕ) → IsLoadKey load key → IsLoad m other → IsLoad (insert m key value) other
still_there m load other key value given is = search (arith, load_moves, put_keeps_tag)

pub staged_tidy : (m : KeyMap) (tidy : Tidy m) (load : ℕ) (rows : List Row) → load < 2 ^ 64 → IsLoad m load → All (λ row. IsLoadKey load row.0) rows → TidyWith (put_rows m rows) tidy.next tidy.new
staged_tidy m tidy load [] fits is all = (tidy, refl, refl)
staged_tidy m tidy load (row ∷ rows) fits is all =
    let first : IsLoadKey load row.0 = all 0 row (omega arith) in
    let one : TidyWith (insert m row.0 row.1) tidy.next tidy.new = one_staged m tidy load row.0 row.1 fits is first in
    let rest : TidyWith (put_rows (insert m row.0 row.1) rows) one.0.next one.0.new = staged_tidy (insert m row.0 row.1) one.0 load rows fits (still_there m load load row.0 row.1 first is) (λ k d within. all (suc k) d (omega arith)) in
    (rest.0, rest.1 ∙ one.1, rest.2 ∙ one.2)

-- ---- a load is sealed
module _ (m : KeyMap) (limit : ℕ) (s : SealRow) (kept : LoadsKept m limit) (fits : s.load < 2 ^ 64) (lacks : Lacks m seal) (mark : Has m (begun s.load) []) where
  abbrev with_seal : KeyMap
  with_seal = insert m (key_of seal) (seal_bytes s)

  abbrev closed : KeyMap
  closed = remove with_seal (key_of (begun s.load))

  sealed_row : Has closed seal (seal_bytes s)
  sealed_row = remove_keeps_tag with_seal 83 76 _ (λ e. absurd (omega arith)) [] ∙ put_is_there m (key_of seal) (seal_bytes s)

  closed_rows : SameTag 103 m closed
  closed_rows = tag_follows 103 m with_seal closed (put_keeps_tag m 103 83 [] (seal_bytes s) (λ e. absurd (omega arith))) (remove_keeps_tag with_seal 103 76 _ (λ e. absurd (omega arith)))

  ended_mark : row_in closed (begun s.load) ≡ None
  ended_mark = removed_is_gone with_seal (key_of (begun s.load))

  others_open : (load : ℕ) → load < 2 ^ 64 → (load ≡ s.load → ⊥) → row_in closed (begun load) ≡ row_in m (begun load)
  others_open load few apart = remove_keeps_row with_seal (begun s.load) (begun load) fits few (λ e. apart (cc)) ∙ put_keeps_tag m 76 83 [] (seal_bytes s) (λ e. absurd (omega arith)) _

  -- the seal names this load alone
  seal_says : (sealed : SealRow) → sealed.load < 2 ^ 64 → Has closed seal (seal_bytes sealed) → sealed.load ≡ s.load
  seal_says sealed few there = seal_load sealed s few fits (value_is (seal_bytes sealed) (seal_bytes s) (sym there ∙ sealed_row))

  still_load : (load : ℕ) → load < 2 ^ 64 → IsLoad m load → IsLoad closed load
  still_load load few (inl (sealed, row, is)) = absurd (no_value (seal_bytes sealed) (sym row ∙ lacks))
  still_load load few (inr open_mark) = search (rules, cases_eq load s.load, sealed_row, others_open)

  loads_closed : LoadsKept closed limit
  loads_closed = record {
    below = λ load value few there. search (arith, cases_eq, s.load, no_value, ended_mark, kept.below, others_open);
    sealed_below = λ sealed few there. let same = seal_says sealed few there in let below = kept.below s.load [] fits mark in omega arith;
    blocks = λ load place value few there. still_load load few.0 (kept.blocks load place value few (sym (closed_rows _) ∙ there));
    pairs = λ load place value few there. still_load load few.0 (kept.pairs load place value few (sym (closed_rows _) ∙ there));
    ended = λ sealed few there. ap (λ k. row_in closed (begun k)) (seal_says sealed few there) ∙ ended_mark;
  }

pub sealed_tidy : (m : KeyMap) (tidy : Tidy m) (s : SealRow) → s.load < 2 ^ 64 → Lacks m seal → Has m (begun s.load) [] → TidyWith (remove (insert m (key_of seal) (seal_bytes s)) (key_of (begun s.load))) tidy.next tidy.new
sealed_tidy m tidy s fits lacks mark =
    let next = tidy.next in
    let kept = kept_of m tidy in
    let mid = insert m (key_of seal) (seal_bytes s) in
    let n = remove mid (key_of (begun s.load)) in
    let same = λ (tag : ℕ) (not_seal : tag ≡ 83 → ⊥) (not_mark : tag ≡ 76 → ⊥). tag_follows tag m mid n (put_keeps_tag m tag 83 [] (seal_bytes s) not_seal) (remove_keeps_tag mid tag 76 (in_eight s.load) not_mark) in
    stays_tidy m n tidy (same 65 (λ e. absurd (omega arith)) (λ e. absurd (omega arith)) []) (loads_kept m n tidy next (omega arith) (omega arith) (λ tag a b c. same tag b a) (rows_removed mid (key_of (begun s.load)) (rows_put m seal (seal_bytes s) tt kept.rows)) (loads_closed m next.load s kept.loads fits lacks mark))
