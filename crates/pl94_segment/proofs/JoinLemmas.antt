-- The rows of the join.
use Rattle.std.{specs.{List.Sorted.{IsPermutation, IsNonDecreasing, IsNonDecreasingBy}, Option.option_to_list}, proofs.lemmas.{Cmp.nat_eq_equiv, Simd.map-map}}
use Rattle.std.proofs.Common.{◌≡◌, ℕ, ◌+◌, ◌<◌, ◌≤◌, ◌^◌, List, [], ◌∷◌, ◌++◌, length, take, map, get_or, Option, Some, None, sym, ap, subst, ◌∙◌, arith, nat_eq, rules}
use Rattle.std.proofs.lemmas.List.{append-nil, get_or-map, map_more, take_all, length-map, Sorted.{IsPermutation-map, sum_by-IsPermutation, All-permutation, length_permutation}}
use Rattle.{std.proofs.lemmas.Map.Keys.{IsDistinct-IsPermutation, IsStrictlyIncreasing-from_distinct}, desk_model.specs.claim.{Block.state_of, Geography.ids_of}}
use Rattle.{desk_model.specs.{claim.GeographyModels.AreBlocks, declared.block.BlockRow.BlockRow}, pl94_geo.specs.{GeoFile.{AreGeoRows, row_ids}, declared.geo.GeoRows.GeoRows}}
use Rattle.{pl94_geo.specs.declared.header.GeoBlock.GeoBlock, pl94_segment.specs.{Join.IsLeast, claim.Join.{taken_numbers, row_of, rows_of, total_people}}}
use Rattle.{pl94_segment.specs.{declared.record.SegmentNumber.SegmentNumber, declared.segment.SegRows.SegRows}, pl94_geo.proofs.GeoLemmas.all_as_first}

-- order by number, as a list of the numbers
pub ids_rise : (rows : List BlockRow) → IsNonDecreasingBy (λ (b : BlockRow). b.id) rows → IsNonDecreasing (ids_of rows)
ids_rise rows sorted i j d le inside =
    let none : BlockRow = record { id = 0; city = None; population = 0 } in
    let count : length (ids_of rows) ≡ length rows = length-map rows (λ (b : BlockRow). b.id) in
    let there : j < length rows = omega arith in
    let first : i < length rows = omega arith in
    rw (get_or-map (λ (b : BlockRow). b.id) rows i none d first, get_or-map (λ (b : BlockRow). b.id) rows j none d there) (sorted i j none le there)

all_numbers : (geo : GeoRows) (i : ℕ) (o : Option ℕ) → length geo.blocks.items ≤ i → geo.state_record ≡ o
    → map (λ (b : GeoBlock). b.number) (take i geo.blocks.items) ++ option_to_list o ≡ taken_numbers geo
all_numbers geo i o all is = search (rules, take_all)

pub least_of_all : (geo : GeoRows) (first second third : SegRows) (i number : ℕ) (o : Option (ℕ × SegmentNumber)) → length geo.blocks.items ≤ i → geo.state_record ≡ Some number
    → IsLeast first second third (map (λ (b : GeoBlock). b.number) (take i geo.blocks.items) ++ number ∷ []) o → IsLeast first second third (taken_numbers geo) o
least_of_all geo first second third i number o all is least = search (rules, all_numbers)

pub least_of_blocks : (geo : GeoRows) (first second third : SegRows) (i : ℕ) (o : Option (ℕ × SegmentNumber)) → length geo.blocks.items ≤ i → geo.state_record ≡ None
    → IsLeast first second third (map (λ (b : GeoBlock). b.number) (take i geo.blocks.items)) o → IsLeast first second third (taken_numbers geo) o
least_of_blocks geo first second third i o all none least =
    subst (λ (ns : List ℕ). IsLeast first second third ns o) (sym (append-nil (map (λ (b : GeoBlock). b.number) (take i geo.blocks.items))) ∙ all_numbers geo i None all none) least

pub least_more : (blocks : List GeoBlock) (first second third : SegRows) (i : ℕ) (b : GeoBlock) (o : Option (ℕ × SegmentNumber)) → i < length blocks → b ≡ get_or blocks i b
    → IsLeast first second third (map (λ (b : GeoBlock). b.number) (take i blocks) ++ b.number ∷ []) o → IsLeast first second third (map (λ (b : GeoBlock). b.number) (take (i + 1) blocks)) o
least_more blocks first second third i b o inside is least =
    subst (λ (ns : List ℕ). IsLeast first second third ns o)
    (ap (λ (x : GeoBlock). map (λ (b : GeoBlock). b.number) (take i blocks) ++ x.number ∷ []) is ∙ sym (map_more (λ (b : GeoBlock). b.number) blocks i b inside)) least

-- the sorted rows are a state's blocks
pub are_blocks : (geo : GeoRows) (first : SegRows) (rows : List BlockRow) → AreGeoRows geo → IsPermutation (rows_of geo first) rows → IsNonDecreasing (ids_of rows)
    → total_people geo first < 2 ^ 32 → AreBlocks rows
are_blocks geo first rows valid same sorted few =
    let count = length_permutation (rows_of geo first) rows same in
    let ids : IsPermutation (ids_of (rows_of geo first)) (ids_of rows) = IsPermutation-map (λ (b : BlockRow). b.id) (rows_of geo first) rows same in
    let from : IsPermutation (row_ids geo.blocks.items) (ids_of rows) =
    subst (λ (xs : List ℕ). IsPermutation xs (ids_of rows)) (map-map (λ b. b.id) (row_of first) geo.blocks.items) ids in
    let as_many : length (rows_of geo first) ≡ length geo.blocks.items = length-map geo.blocks.items (row_of first) in
    let distinct = IsDistinct-IsPermutation nat_eq nat_eq_equiv.symm (row_ids geo.blocks.items) (ids_of rows) from valid.distinct in
    let rising = IsStrictlyIncreasing-from_distinct (ids_of rows) sorted distinct in
    let one_state = all_as_first (state_of (get_or (row_ids geo.blocks.items) 0 0)) (ids_of rows)
    (All-permutation (λ (id : ℕ). state_of id ≡ state_of (get_or (row_ids geo.blocks.items) 0 0)) (row_ids geo.blocks.items) (ids_of rows) from valid.one_state) in
    let people = subst (λ (n : ℕ). n < 2 ^ 32) (sym (sum_by-IsPermutation (λ (b : BlockRow). b.population) (rows_of geo first) rows same)) few in
    record { some = omega (arith, valid.some); few = omega (arith, valid.few); rising = rising; one_state = one_state; people = people }
