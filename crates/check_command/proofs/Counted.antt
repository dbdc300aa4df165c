-- A sum over the blocks of each county, block by block.
use Rattle.std.{specs.List.range_with_len, proofs.lemmas.{Bool.cases_eq, List.FromFn.{get_or-map-range_with_len, length-map-range_with_len, filter_of_map_range_with_len_more}}}
use Rattle.std.proofs.Common.{◌≡◌, ℕ, ◌+◌, ◌<◌, ◌≤◌, List, [], ◌∷◌, ◌++◌, length, get_or, set, take, replicate, map, cond, eqb, true, false, sum_by, arith, sym, ◌∙◌, ap, refl, ⊎_elim, add-zero, eq-eqb, ne_eqb}
use Rattle.{std.proofs.lemmas.List.{get_or_default, get_or-replicate, length-set, get_or-set_same, get_or-set_other, take_all, same_lists}, desk_model.specs.claim.Block.county_of}
use Rattle.{std.proofs.lemmas.List.Sums.{sum_by_more, sum_by_more_le_part, sum_by-cons}, check_command.specs.declared.counts.CountyPeople.CountyPeople}
use Rattle.check_command.specs.Counts.{county_codes, county_blocks, county_people, has_county, with_people, if_there, counties_to}
use Rattle.desk_model.specs.declared.block.BlockRow.{BlockRow}

pub county_codes_is : county_codes ≡ 1000
unfolding county_codes
county_codes_is = refl

abbrev pub one : BlockRow → ℕ
one b = 1

abbrev pub people : BlockRow → ℕ
people b = b.population

-- what a block adds to a county
abbrev pub share : (BlockRow → ℕ) → ℕ → BlockRow → ℕ
share f k b = cond (eqb (county_of b.id) k) (f b) 0

pub record AreCounted (f : BlockRow → ℕ) (rows : List BlockRow) (count : ℕ) (table : List ℕ) : Type 0 where
  pub long : length table ≡ county_codes
  pub sums : (k : ℕ) → k < county_codes → get_or table k 0 ≡ sum_by (share f k) (take count rows)

pub counted_none : (f : BlockRow → ℕ) (rows : List BlockRow) (table : List ℕ) → length table ≡ county_codes → table ≡ replicate (length table) 0 → AreCounted f rows 0 table
counted_none f rows table long none = record {
  long = long;
  sums = λ k less. ap (λ (t : List ℕ). get_or t k 0) none ∙ get_or-replicate (length table) k 0 0 (omega (arith, long, less));
}

more : (f : BlockRow → ℕ) (rows : List BlockRow) (count k : ℕ) (row : BlockRow) → count < length rows → row ≡ get_or rows count row
    → sum_by (share f k) (take (count + 1) rows) ≡ sum_by (share f k) (take count rows) + cond (eqb (county_of row.id) k) (f row) 0
more f rows count k row less is = sum_by_more (share f k) rows count row less ∙ ap (λ b. sum_by (share f k) (take count rows) + share f k b) (sym is)

-- a county's share so far and one block's are no more than that of all blocks
pub counted_fit : (f : BlockRow → ℕ) (rows : List BlockRow) (count k : ℕ) (row : BlockRow) → count < length rows → row ≡ get_or rows count row
    → sum_by (share f k) (take count rows) + f row ≤ sum_by f rows
counted_fit f rows count k row less is =
    let e = sum_by_more_le_part (share f k) f rows count row less (λ b. elim (eqb (county_of b.id) k) as (λ v. cond v (f b) 0 ≤ f b) [ true ↦ omega arith | false ↦ omega arith ]) in
    rw (← is) at e

pub ones_length : (rows : List BlockRow) → sum_by one rows ≡ length rows
ones_length [] = refl
ones_length (b ∷ bs) = omega (arith, ones_length bs, sum_by-cons one b bs)

-- the block's share joins those of its county
pub counted_add : (f : BlockRow → ℕ) (rows : List BlockRow) (count : ℕ) (table : List ℕ) (row : BlockRow) (place : ℕ) → count < length rows
    → row ≡ get_or rows count row → AreCounted f rows count table → place < county_codes → county_of row.id ≡ place
    → AreCounted f rows (count + 1) (set table place (get_or table place 0 + f row))
counted_add f rows count table row place less is was inside here = record {
  long = length-set table place (get_or table place 0 + f row) ∙ was.long;
  sums = λ k small. rw (more f rows count k row less is) (⊎_elim
      (λ same.
      (let there : place < length table = rw was.long inside in
      let got = get_or-set_same table place (get_or table place 0 + f row) 0 there in
      rw (eq-eqb (county_of row.id) k (here ∙ sym same), same, got, was.sums place inside) refl))
      (λ other.
      (let got = get_or-set_other table place k (get_or table place 0 + f row) 0 other in
      rw (ne_eqb (county_of row.id) k (λ at. other (sym at ∙ here)), got, was.sums k small) (sym (add-zero (sum_by (share f k) (take count rows))))))
      (cases_eq k place));
}

pub counted_all : (f : BlockRow → ℕ) (rows : List BlockRow) (count : ℕ) (table : List ℕ) → length rows ≤ count → AreCounted f rows count table
    → table ≡ map (λ k. sum_by (share f k) rows) (range_with_len 0 county_codes)
counted_all f rows count table all was =
    same_lists table (map (λ k. sum_by (share f k) rows) (range_with_len 0 county_codes)) (was.long ∙ sym (length-map-range_with_len (λ k. sum_by (share f k) rows) 0 county_codes))
    (λ k d less. get_or_default table k d 0 less ∙ was.sums k (omega (arith, was.long, less)) ∙ ap (sum_by (share f k)) (take_all count rows all)
    ∙ sym (get_or-map-range_with_len (λ m. sum_by (share f m) rows) 0 county_codes k k d (omega (arith, was.long, less)) (omega arith)))

-- one county code more
pub counties_more : (rows : List BlockRow) (blocks people : List ℕ) (n : ℕ) (old new : List CountyPeople) → n < county_codes
    → blocks ≡ map (county_blocks rows) (range_with_len 0 county_codes) → people ≡ map (county_people rows) (range_with_len 0 county_codes)
    → old ≡ counties_to rows n → new ≡ old ++ if_there n (get_or blocks n 0) (get_or people n 0) → new ≡ counties_to rows (n + 1)
counties_more rows blocks people n old new less blocks_are people_are so_far added =
    let b = get_or-map-range_with_len (county_blocks rows) 0 county_codes n n 0 less (omega arith) in
    let p = get_or-map-range_with_len (county_people rows) 0 county_codes n n 0 less (omega arith) in
    rw (added, so_far, blocks_are, people_are, b, p)
    (sym (filter_of_map_range_with_len_more (λ (c : CountyPeople). has_county rows c.county) (with_people rows) 0 n n (omega arith)))
