-- A map without rows is tidy; in a tidy map the numbers that come next are free, and it has one row of counters' numbers.
use Rattle.std.{specs.FinMap.{get, empty, get-empty}, proofs.Common.{rules, false, ◌≡◌, ◌<◌, ◌≤◌, ◌^◌, ℕ, List, [], None, refl, sym, ◌∙◌, inl, inr, arith, Option, Some}}
use Rattle.{std.proofs.lemmas.Nat.from_be_bytes-to_be_bytes_8, desk_store_rows.specs.{Tidy.TidyWith, TidyLaws.AreFree, claim.{Lists.chunks_bytes, Order.key_cmp}}}
use Rattle.desk_store_rows.specs.{claim.{Keys.{key_of, Fits, counters, holding, version, chunk}, Rows.{KeyMap, Lacks}, Values.counters_bytes}, declared.value.Counters.Counters}
use Rattle.desk_store_rows.{specs.claim.Tidy.{no_numbers, IsNext, CountersFit, IsKnown, IsLoad, Tidy, IsNamedBy}, proofs.{OneGeography.no_value, TidyParts.{some_or_none, tidy_at}}}
use Rattle.desk_store_rows.proofs.HolderCounts.{nothing_counted_by_holders, some_holder, never}

-- ---- no rows
nothing_there : (key : List ℕ) → get {K = List ℕ} {X = List ℕ} {R = key_cmp} empty key ≡ None
nothing_there key = get-empty key_cmp key

pub empty_tidy : TidyWith empty no_numbers false
empty_tidy =
    let m : KeyMap = empty in
    let is : IsNext m no_numbers = rw (nothing_there (key_of counters)) refl in
    tidy_at m no_numbers false is (record { plan_fits = omega arith; chunk_fits = omega arith; load_fits = omega arith }) (record {
      rows = λ key value there. absurd (never key value there);
      plans = search (rules, never);
      chunks = record {
        below = λ plan number is. absurd (never _ _ is.row);
        chunks = λ number index value fits has. absurd (never _ _ has);
        pieces = λ number piece value fits has. absurd (never _ _ has);
      };
      loads = search (rules, never);
      holders = record {
        told = nothing_there (key_of version);
        held = λ plan number value fits has. absurd (never _ _ has);
        counted_by_holders = nothing_counted_by_holders;
        hold = λ is_new name plan number is naming. absurd (never _ _ is.row);
      };
    })

-- ---- one row of counters
counters_say : (a b : Counters) → CountersFit a → CountersFit b → counters_bytes a ≡ counters_bytes b → a ≡ b
counters_say a b fa fb same = search (rules, from_be_bytes-to_be_bytes_8)

pub one_next : (m : KeyMap) (a b : Counters) → CountersFit a → CountersFit b → IsNext m a → IsNext m b → a ≡ b
one_next m a b fa fb is also = search (arith, counters_say)

-- ---- numbers that come next
pub known_below : (m : KeyMap) (tidy : Tidy m) (plan : ℕ) → plan < 2 ^ 64 → IsKnown m plan → plan < tidy.next.plan
known_below m tidy plan fits (inl (name, is)) = tidy.below.plans name plan is
known_below m tidy plan fits (inr mark) = tidy.below.retired_plans plan [] fits mark

-- and so is a plan that names a chunk
pub named_below : (m : KeyMap) (tidy : Tidy m) (plan number : ℕ) → IsNamedBy m plan number → plan < tidy.next.plan
named_below m tidy plan number naming = known_below m tidy plan naming.part_fits.0 (tidy.owned.parts plan naming.revision naming.index (chunks_bytes naming.numbers) naming.part_fits naming.row)

load_below : (m : KeyMap) (tidy : Tidy m) (load : ℕ) → load < 2 ^ 64 → IsLoad m load → load < tidy.next.load
load_below m tidy load fits given = search (arith, tidy.below.sealed_load, tidy.below.begun_loads)

-- what can only have a number below the next one is not there
next_free : (o : Option (List ℕ)) (number next : ℕ) → next ≤ number → ((value : List ℕ) → o ≡ Some value → number < next) → o ≡ None
next_free o number next more below = some_or_none o (λ value there. let less = below value there in absurd (omega arith))

pub numbers_free : (m : KeyMap) (tidy : Tidy m) → AreFree m tidy.next
numbers_free m tidy =
    let holding_free : (plan number : ℕ) → tidy.next.chunk ≤ number → Fits (holding plan number) → Lacks m (holding plan number) = λ plan number more fits.
    next_free _ _ _ more (λ value there. tidy.below.named_chunks plan number (tidy.holdings.held plan number value fits there).1) in
    record {
      chunks = λ number more fits index few. next_free _ _ _ more (λ value there. let is = tidy.owned.chunks number index value (fits, few) there in tidy.below.named_chunks is.0 number is.1);
      holdings = holding_free;
      holder_counts = λ number more fits. some_or_none _ (λ value there.
          let is = some_holder m number value tidy.holdings.counted_by_holders fits there in
          no_value [] (sym is.2 ∙ holding_free is.0 number more (is.1, fits)));
      holders = λ plan number more fits. next_free _ _ _ more (λ value there. named_below m tidy plan number (tidy.holdings.held plan number value fits there).1);
      marks = λ plan more fits. next_free _ _ _ more (λ value there. tidy.below.retired_plans plan value fits there);
      parts = λ plan revision index more fits. next_free _ _ _ more (λ value there. known_below m tidy plan fits.0 (tidy.owned.parts plan revision index value fits there));
      revisions = λ name p fits small has revision index more part_fits. some_or_none _ (λ value there.
          let few = (tidy.counted.counted name p fits small has revision index value part_fits there).1 in
          omega arith);
      loads = λ load more fits. next_free _ _ _ more (λ value there. tidy.below.begun_loads load value fits there);
      blocks = λ load place more fits. next_free _ _ _ more (λ value there. load_below m tidy load fits.0 (tidy.owned.blocks load place value fits there));
      pairs = λ load place more fits. next_free _ _ _ more (λ value there. load_below m tidy load fits.0 (tidy.owned.pairs load place value fits there));
    }
