-- Rows as commands keep them have numbers below those that come next, and where all rows have, no number in use comes next.
use Rattle.std.{specs.{FinMap.get, Int.from_be_bytes}, proofs.lemmas.{List.Elements.{All-contains, All-contains_itself}, Nat.from_be_bytes-to_be_bytes_8}}
use Rattle.std.proofs.Common.{◌≡◌, ◌<◌, ◌≤◌, ◌+◌, ◌^◌, ℕ, zero, suc, Bool, true, false, List, [], All, Option, Some, None, inl, inr, refl, sym, ap, subst, ◌∙◌, w64, arith}
use Rattle.{desk_model.specs.claim.{Desk.{Desk, Plan}, Geography.GeographyModel}, desk_store_opening_tidy.specs.Rows.{AreAfterSeal, AreRowsToVersion}}
use Rattle.{desk_store_opening_tidy.specs.Numbers.{IsBelow, IsCount, AllBelow, NumbersFit, IsDue, HasNumbersBelow}, desk_store_pages.specs.Reading.StandsAs}
use Rattle.desk_store_rows.specs.{Changes.plan_row_of, claim.{DeskRows.{IsPlanAt, IsDesk}, GeographyRows.IsGeography, Holders.{AreHolders, holder_count_row}, Lists.chunks_bytes}}
use Rattle.desk_store_rows.specs.claim.Keys.{RowKey, key_of, Fits, retired, begun, holding, holder_count, named, part, seal, version, chunk, in_four, in_eight}
use Rattle.desk_store_rows.specs.claim.{Rows.{KeyMap, row_in, Has}, Tidy.{IsNext, CountersFit, IsNumbered, IsNamedBy, IsKnown, Tidy, version_row}, Values.{plan_bytes, seal_bytes}}
use Rattle.desk_store_rows.{specs.declared.value.{Counters.Counters, SealRow.SealRow}, proofs.{Counting.few_holders, ListLaws.chunks_differ, OneGeography.{value_is, no_value}}}
use Rattle.desk_store_rows.proofs.TidyFree.{one_next}

-- ---- what is kept is below
module _ (m : KeyMap) (tidy : Tidy m) where
  plan_below : (geography : Option GeographyModel) (name value : List ℕ) (p : Option Plan) → IsPlanAt m geography name p → Has m (named name) value → IsBelow tidy.next (named name) value
  plan_below geography name value None is has = absurd (no_value value (sym has ∙ is))
  plan_below None name value (Some p) is has = absurd is
  plan_below (Some g) name value (Some p) (number, plan) has = (
    plan_row_of number p,
    value_is (plan_bytes (plan_row_of number p)) value (sym plan.row ∙ has),
    tidy.below.plans name number (record { plan = plan_row_of number p; row = plan.row; is = refl; fits = plan.number_fits }),
  )

  known_below : (plan : ℕ) → plan < 2 ^ 64 → IsKnown m plan → plan < tidy.next.plan
  known_below plan fits (inl (name, is)) = tidy.below.plans name plan is
  known_below plan fits (inr mark) = tidy.below.retired_plans plan [] fits mark

  seal_below : (geography : Option GeographyModel) (value : List ℕ) → IsGeography m geography → Has m seal value → IsBelow tidy.next seal value
  seal_below None value is has = absurd (no_value value (sym has ∙ is))
  seal_below (Some g) value (load, is) has = (_, value_is _ value (sym is.named ∙ has), tidy.below.sealed_load _ is.load_fits is.named)

  named_plan_below : (plan number : ℕ) → IsNamedBy m plan number → plan < tidy.next.plan
  named_plan_below plan number is = search (arith, known_below, is.part_fits.0, tidy.owned.parts, is.part_fits, is.row)

  holder_count_below : (number : ℕ) (value : List ℕ) → number < 2 ^ 64 → Has m (holder_count number) value → IsBelow tidy.next (holder_count number) value
  holder_count_below number value fits has =
      let is = tidy.holdings.counted_by_holders number fits in
      by is.count is.fits is.row is.holders
    where
      by : (count : ℕ) → count < 2 ^ 64 → row_in m (holder_count number) ≡ holder_count_row count → AreHolders m number count → (number < tidy.next.chunk) × IsCount tidy.next.plan value
      by zero few row holders = absurd (no_value value (sym has ∙ row))
      by (suc more) few row holders =
          let (small, held) = holders.each 0 (omega arith) in
          let (empty, is_named) = tidy.holdings.held (holders.plan_at 0) number [] (small, fits) held in
          let same : value ≡ in_eight (more + 1) = value_is value (in_eight (more + 1)) (sym has ∙ row) in
          let plans : suc more ≤ tidy.next.plan = few_holders m number (suc more) tidy.next.plan holders (λ plan fit held_by. named_plan_below plan number (tidy.holdings.held plan number [] (fit, fits) held_by).1) in
          (tidy.below.named_chunks (holders.plan_at 0) number is_named, (more + 1, omega arith, omega (arith, plans), omega (arith, few), same))

  version_below : (value : List ℕ) → Has m version value → value ≡ in_four 2
  version_below value has = by tidy.new tidy.holdings.told
    where
      by : (new : Bool) → row_in m version ≡ version_row new → value ≡ in_four 2
      by true told = value_is value (in_four 2) (sym has ∙ told)
      by false told = absurd (no_value value (sym has ∙ told))

  pub kept_below : (desk : Desk) → IsDesk m desk → (of : RowKey) (value : List ℕ) → Fits of → Has m of value → IsBelow tidy.next of value
  kept_below desk is (retired plan) value fits has = tidy.below.retired_plans plan value fits has
  kept_below desk is (begun load) value fits has = tidy.below.begun_loads load value fits has
  kept_below desk is (holding plan number) value fits has =
      let (empty, is_named) = tidy.holdings.held plan number value fits has in
      (named_plan_below plan number is_named, tidy.below.named_chunks plan number is_named, empty)
  kept_below desk is (holder_count number) value fits has = holder_count_below number value fits has
  kept_below desk is (named name) value fits has = plan_below desk.geography name value (get desk.plans name) (is.plans name) has
  kept_below desk is (part plan revision index) value fits has =
      let (numbers, chunks, same) = tidy.counted.parts plan revision index value fits has in
      let row = has ∙ ap Some same in
      let each : All (λ n. n < tidy.next.chunk) numbers = λ k d within.
      let among = All-contains_itself numbers k d within in tidy.below.named_chunks plan _
      (record { revision = revision; index = index; part_fits = fits; numbers = numbers; chunks = chunks; row = row; among = among }) in
      (known_below plan fits.0 (tidy.owned.parts plan revision index value fits has), (numbers, chunks, sym same, each))
  kept_below desk is seal value fits has = seal_below desk.geography value is.geography has
  kept_below desk is version value fits has = version_below value has
  kept_below desk is _ value fits has = tt

-- a row that isn't is no row of such a map
pub no_due : (next : Counters) (m : KeyMap) (key value : List ℕ) → IsDue next m → get m key ≡ Some value → ((of : RowKey) → Fits of → NumbersFit of → key ≡ key_of of → IsBelow next of value → ⊥) → ⊥
no_due next m key value due there above =
    let tidy = due.kept.tidy in
    let (of, fits, is) = tidy.rows key value there in
    let same = one_next m tidy.next next tidy.fits due.fits tidy.is_next due.is_next in
    let has : Has m of value = ap (get m) (sym is) ∙ there in
    above of fits (search (arith)) is (subst (λ (n : Counters). IsBelow n of value) same (kept_below m tidy due.kept.desk due.kept.is of value fits has))

-- ---- what is below
module _ (next : Counters) (m : KeyMap) (fits : CountersFit next) (all : AllBelow next m) where
  numbered_below : (name : List ℕ) (number : ℕ) → IsNumbered m name number → number < next.plan
  numbered_below name number is =
      let (p, bytes, below) = all (named name) (plan_bytes is.plan) tt is.row in
      let limit = fits.plan_fits in
      let told : p.number ≡ is.plan.number = sym (from_be_bytes-to_be_bytes_8 p.number (omega arith)) ∙ ap (from_be_bytes w64) bytes ∙ from_be_bytes-to_be_bytes_8 is.plan.number (let same = is.is in let few = is.fits in omega arith) in
      omega (arith, told, is.is, below)

  sealed_below : (sealed : SealRow) → sealed.load < 2 ^ 64 → Has m seal (seal_bytes sealed) → sealed.load < next.load
  sealed_below sealed few has =
      let (s, bytes, below) = all seal (seal_bytes sealed) tt has in
      let limit = fits.load_fits in
      let told : s.load ≡ sealed.load = sym (from_be_bytes-to_be_bytes_8 s.load (omega arith)) ∙ ap (from_be_bytes w64) bytes ∙ from_be_bytes-to_be_bytes_8 sealed.load few in
      omega (arith, told, below)

  named_below : (plan number : ℕ) → IsNamedBy m plan number → number < next.chunk
  named_below plan number is =
      let (below, (numbers, chunks, bytes, each)) = all (part plan is.revision is.index) (chunks_bytes is.numbers) is.part_fits.0 is.row in
      let same = chunks_differ numbers is.numbers chunks is.chunks bytes in
      All-contains (λ n. n < next.chunk) is.numbers number (subst (λ (l : List ℕ). All (λ n. n < next.chunk) l) same each) is.among

  pub are_below : IsNext m next → AreRowsToVersion m → AreAfterSeal next.chunk m → HasNumbersBelow m
  are_below is rows after = record {
    next = next;
    is_next = is;
    fits = fits;
    below = record {
      plans = numbered_below;
      retired_plans = λ plan. all (retired plan);
      named_chunks = named_below;
      begun_loads = λ load. all (begun load);
      sealed_load = sealed_below;
    };
    told = record {
      holdings = λ plan number. all (holding plan number);
      holder_counts = λ number. all (holder_count number);
      version = λ value. all version value tt;
    };
    rows = rows;
    after = after;
  }

-- counters that are read fit
pub counters_fit : (next : Counters) → (next.plan < 2 ^ 64) × (next.chunk < 2 ^ 64) × (next.load < 2 ^ 64) → CountersFit next
counters_fit next fit = record { plan_fits = fit.0; chunk_fits = fit.1; load_fits = fit.2 }

-- the seal is a row or none
pub seal_of : (m : KeyMap) (g : Option GeographyModel) → IsGeography m g → (value : Option SealRow) × StandsAs seal_bytes (key_of seal) m value
seal_of m None lacks = (None, sym lacks)
seal_of m (Some g) is = (Some _, sym is.1.named)
