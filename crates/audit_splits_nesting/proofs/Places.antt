-- Counties and cities of the blocks at places.
use Rattle.std.proofs.{Common.{◌≡◌, ℕ, ◌+◌, ◌<◌, ◌≤◌, ◌^◌, Some, None, List, length, get_or, sym, ap, ◌∙◌, arith, rules}, lemmas.{Bool.cases_lt, List.{get_or-map, length-map}}}
use Rattle.{std.proofs.lemmas.{Map.Keys.{sorted_from_strictly_increasing, below_from_sorted}, Option.same_Some}, audit_splits_nesting.specs.Splits.AreCodesBelow}
use Rattle.{audit_splits_nesting.specs.claim.Divided.{county_at, city_at, IsInCounty, IsInCity}, desk_model.specs.claim.{Block.county_of, Geography.{ids_of, id_at}}}
use Rattle.desk_model.{specs.{claim.GeographyModels.AreBlocks, declared.block.BlockRow.BlockRow}, proofs.Parts.county_rises}

pub county_here : (blocks : List BlockRow) (i : ℕ) (row : BlockRow) → i < length blocks → row ≡ get_or blocks i row → county_at blocks i ≡ county_of row.id
county_here blocks i row within is = ap county_of (get_or-map (λ (b : BlockRow). b.id) blocks i row 0 within ∙ ap (λ (b : BlockRow). b.id) (sym is))

pub city_here : (blocks : List BlockRow) (i : ℕ) (row : BlockRow) → i < length blocks → row ≡ get_or blocks i row → city_at blocks i ≡ row.city
city_here blocks i row within is = get_or-map (λ (b : BlockRow). b.city) blocks i row None within ∙ ap (λ (b : BlockRow). b.city) (sym is)

pub county_below : (blocks : List BlockRow) (county i : ℕ) → IsInCounty blocks county i → county < 1000
county_below blocks county i is = rw (← is.county_is) (omega arith)

-- counties never fall along the blocks
pub counties_rise : (blocks : List BlockRow) (i j : ℕ) → AreBlocks blocks → i < j → j < length blocks → county_at blocks i ≤ county_at blocks j
counties_rise blocks i j are less within =
    let rises = below_from_sorted (ids_of blocks) i j 0 (sorted_from_strictly_increasing (ids_of blocks) are.rising) less (rw length-map within) in
    county_rises (id_at blocks i) (id_at blocks j) (omega arith) (are.one_state i 0 (rw length-map (omega arith)) ∙ sym (are.one_state j 0 (rw length-map within)))

-- a block lies in one city at most
pub one_city : (blocks : List BlockRow) (a b i : ℕ) → IsInCity blocks a i → IsInCity blocks b i → a ≡ b
one_city blocks a b i one other = same_Some a b (sym one.city_is ∙ other.city_is)

-- a bound above the cities so far, with one block more
pub codes_more : (blocks : List BlockRow) (i old new : ℕ) → AreCodesBelow blocks i old → old ≤ new → new ≤ 2 ^ 32 → ((city : ℕ) → IsInCity blocks city i → city < new)
    → AreCodesBelow blocks (i + 1) new
codes_more blocks i old new was more few here = search (rules, cases_lt)

pub in_city : (blocks : List BlockRow) (i city : ℕ) (row : BlockRow) → i < length blocks → row ≡ get_or blocks i row → row.city ≡ Some city → IsInCity blocks city i
in_city blocks i city row within is has = record { within = within; city_is = city_here blocks i row within is ∙ has }

pub in_no_city : (blocks : List BlockRow) (i city : ℕ) (row : BlockRow) → i < length blocks → row ≡ get_or blocks i row → row.city ≡ None → ¬ IsInCity blocks city i
in_no_city blocks i city row within is none lies = let bad : Some city ≡ None = sym lies.city_is ∙ city_here blocks i row within is ∙ none in cc

pub in_county : (blocks : List BlockRow) (i county : ℕ) (row : BlockRow) → i < length blocks → row ≡ get_or blocks i row → county ≡ county_of row.id → IsInCounty blocks county i
in_county blocks i county row within is has = record { within = within; county_is = county_here blocks i row within is ∙ sym has }
