-- A sum over the blocks, block by block.
use Rattle.std.{specs.List.zip, proofs.lemmas.{Bool.cases_eq, List.{get_or_default, get_or-replicate, length-set, get_or-set_same, get_or-set_other, take_all, same_lists}}}
use Rattle.std.proofs.Common.{◌≡◌, ℕ, ◌+◌, ◌<◌, ◌≤◌, ◌≢◌, List, [], ◌∷◌, length, get_or, set, take, replicate, cond, eqb, true, false, sum_by, arith, sym, ◌∙◌, ap, inl, inr, add-zero, eq-eqb, ne_eqb, rules}
use Rattle.std.proofs.lemmas.List.{FromFn.{get_or-map-range_with_len, length-map-range_with_len}, Sums.{sum_by_more, sum_by_more_le_part, sum_by-cons}}
use Rattle.{std.proofs.lemmas.Slice.Zip.{length-zip, get_or-zip}, audit_population.specs.claim.People.{people_in, populations_of, state_people}}
use Rattle.desk_model.specs.declared.block.BlockRow.{BlockRow}

-- a block's people, where the plan gives it to the district
abbrev pub share : ℕ → BlockRow × ℕ → ℕ
share d p = cond (eqb p.1 d) p.0.population 0

-- the people of district k + 1 among the first blocks
abbrev pub people_so_far : List BlockRow → List ℕ → ℕ → ℕ → ℕ
people_so_far blocks plan count k = sum_by (share (k + 1)) (take count (zip blocks plan))

pub record AreCounted (blocks : List BlockRow) (plan : List ℕ) (count : ℕ) (length_of : ℕ) (people : List ℕ) : Type 0 where
  pub long : length people ≡ length_of
  pub sums : (k : ℕ) → k < length_of → get_or people k 0 ≡ people_so_far blocks plan count k

pub counted_none : (blocks : List BlockRow) (plan : List ℕ) (n : ℕ) (people : List ℕ) → length people ≡ n → people ≡ replicate n 0 → AreCounted blocks plan 0 n people
counted_none blocks plan n people long none = search (rules, get_or-replicate)

zip_people : (blocks : List BlockRow) (plan : List ℕ) → sum_by (λ (p : BlockRow × ℕ). p.0.population) (zip blocks plan) ≤ state_people blocks
zip_people [] plan = omega arith
zip_people (b ∷ bs) [] = omega arith
zip_people (b ∷ bs) (x ∷ xs) =
    omega (arith, zip_people bs xs, sum_by-cons (λ (p : BlockRow × ℕ). p.0.population) (b, x) (zip bs xs), sum_by-cons (λ (b : BlockRow). b.population) b bs)

share_small : (k : ℕ) (p : BlockRow × ℕ) → share (k + 1) p ≤ p.0.population
share_small k p = elim (eqb p.1 (k + 1)) as (λ v. cond v p.0.population 0 ≤ p.0.population) [ true ↦ omega arith | false ↦ omega arith ]

module _ (blocks : List BlockRow) (plan : List ℕ) (count : ℕ) (block : BlockRow) (beside : length plan ≡ length blocks) (less : count < length blocks) (is : block ≡ get_or blocks count block) where
  inside_zip : count < length (zip blocks plan)
  inside_zip = omega (arith, length-zip blocks plan)

  zip_there : get_or (zip blocks plan) count (block, 0) ≡ (block, get_or plan count 0)
  zip_there = search (rules, get_or-zip)

  more_people : (k : ℕ) → people_so_far blocks plan (count + 1) k ≡ people_so_far blocks plan count k + cond (eqb (get_or plan count 0) (k + 1)) block.population 0
  more_people k = sum_by_more (share (k + 1)) (zip blocks plan) count (block, 0) inside_zip ∙ ap (λ p. people_so_far blocks plan count k + share (k + 1) p) zip_there

  none_more : (k : ℕ) → get_or plan count 0 ≢ k + 1 → people_so_far blocks plan (count + 1) k ≡ people_so_far blocks plan count k
  none_more k other = more_people k ∙ ap (λ b. people_so_far blocks plan count k + cond b block.population 0) (ne_eqb _ _ other) ∙ add-zero (people_so_far blocks plan count k)

  -- a district's people so far and one block's are no more than the state's
  pub people_fit : (k : ℕ) → people_so_far blocks plan count k + block.population ≤ state_people blocks
  people_fit k =
      let e = sum_by_more_le_part (share (k + 1)) (λ (p : BlockRow × ℕ). p.0.population) (zip blocks plan) count (block, 0) inside_zip (share_small k) in
      let f : people_so_far blocks plan count k + block.population ≤ sum_by (λ (p : BlockRow × ℕ). p.0.population) (zip blocks plan)
      = rw (zip_there) at e in
      omega (arith, f, zip_people blocks plan)

  module _ {n : ℕ} {people : List ℕ} (was : AreCounted blocks plan count n people) where
    -- the block's district isn't one of those that are counted
    pub counted_skip : ((k : ℕ) → k < n → get_or plan count 0 ≢ k + 1) → AreCounted blocks plan (count + 1) n people
    counted_skip none = record { long = was.long; sums = λ k small. was.sums k small ∙ sym (none_more k (none k small)) }

    -- the block's people join those of its district
    pub counted_add : (place : ℕ) → place < n → get_or plan count 0 ≡ place + 1 → AreCounted blocks plan (count + 1) n (set people place (get_or people place 0 + block.population))
    counted_add place inside here = record {
      long = length-set people place (get_or people place 0 + block.population) ∙ was.long;
      sums = λ k small. elim (cases_eq k place) [
        | inl same ↦
            rw same (get_or-set_same people place (get_or people place 0 + block.population) 0 (rw was.long inside) ∙ ap (λ m. m + block.population) (was.sums place inside)
            ∙ sym (more_people place ∙ ap (λ b. people_so_far blocks plan count place + cond b block.population 0) (eq-eqb _ _ here)))
        | inr other ↦
            get_or-set_other people place k (get_or people place 0 + block.population) 0 other ∙ was.sums k small ∙ sym (none_more k (λ same. other (omega (arith, same, here))))
      ];
    }

pub counted_all : (blocks : List BlockRow) (plan : List ℕ) (count n : ℕ) (people : List ℕ) → length plan ≡ length blocks → length blocks ≤ count → AreCounted blocks plan count n people
    → people ≡ populations_of blocks plan n
counted_all blocks plan count n people beside all was =
    same_lists people (populations_of blocks plan n) (was.long ∙ sym (length-map-range_with_len (people_in blocks plan) 1 n))
    (λ k d less. get_or_default people k d 0 less ∙ was.sums k (omega (arith, was.long, less)) ∙ whole k
    ∙ sym (get_or-map-range_with_len (people_in blocks plan) 1 n k (k + 1) d (omega (arith, was.long, less)) (omega arith)))
  where
    whole : (k : ℕ) → people_so_far blocks plan count k ≡ people_in blocks plan (k + 1)
    whole k = ap (sum_by (share (k + 1))) (take_all count (zip blocks plan) (omega (arith, length-zip blocks plan)))
