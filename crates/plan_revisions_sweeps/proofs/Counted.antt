-- The plans that hold chunks, counted row by row.
use Rattle.std.specs.{BTreeMap.{BTreeMap, IsEmpty, is_at, get as count_at}, Cmp.Lexicographic.nat_list_cmp_total, FinMap.{empty, entries, find, get, get-empty, get-insert, insert}}
use Rattle.std.{specs.{FinMap.Entries.find-append, Map.lookup, Ordering.{nat_cmp, eq_by_cmp}}, proofs.lemmas.{Bool.cases_eq, Map.{Lookups.exact_unsigned, Views.tells_apart}}}
use Rattle.std.proofs.Common.{◌≡◌, ◌<◌, ◌≤◌, ◌+◌, ◌^◌, ◌++◌, ℕ, suc, Bool, false, List, [], ◌∷◌, cond, Some, None, refl, sym, ap, subst, ◌∙◌, inl, inr, arith}
use Rattle.{btree_scan.specs.{Prefixes.under, declared.rows.Row.Row}, desk_store_rows.specs.{TurnLaws.IsShared, claim.{Holders.AreHolders, Keys.{key_of, holding}, Order.key_cmp}}}
use Rattle.{desk_store_rows.specs.claim.Rows.{KeyMap, Lacks}, page_btree.specs.node.claim.Entries.Entry, btree_scan.proofs.RowsFound.{IsNextUnder, found_among}}
use Rattle.{plan_revisions_sweeps.specs.Checks.{so_many, noted, IsOneMore, IsCounted, AreCounts}, desk_store_rows.proofs.Counting.{holders_moved, no_holders, holders_joined}}
use Rattle.desk_store_rows.proofs.{Frames.{put_is_there, put_keeps_row}, HolderCounts.{other_chunk, other_plan}, OneGeography.no_value}

-- so many of the plans in a map hold the chunk as were counted, and no more than rows were taken
pub record IsCountedSo (counts : BTreeMap ℕ ℕ) (so m : KeyMap) (taken number : ℕ) : Type 0 where
  pub count : ℕ
  pub few : count ≤ taken
  pub told : count_at nat_cmp counts number ≡ noted count
  pub holders : AreHolders so number count
  pub shared : 0 < count → IsShared m number

-- a map has the rows that were taken, and for each chunk so many plans were counted
pub record AreCountedSo (rows : List Entry) (counts : BTreeMap ℕ ℕ) (m : KeyMap) (taken : ℕ) : Type 0 where
  pub so : KeyMap
  pub found : (key : List ℕ) → get so key ≡ find key_cmp key rows
  pub counted : (number : ℕ) → number < 2 ^ 64 → IsCountedSo counts so m taken number

-- ---- none
pub none_counted : (counts : BTreeMap ℕ ℕ) (m : KeyMap) → IsEmpty counts → AreCountedSo [] counts m 0
none_counted counts m none = record {
  so = empty;
  found = λ key. get-empty key_cmp key;
  counted = λ number fits.
      let told = ap (λ (es : List (ℕ × ℕ)). lookup (is_at (nat_cmp number)) es) none in
      let holders = no_holders empty number (λ plan small held. no_value [] (sym held ∙ get-empty key_cmp (key_of (holding plan number)))) in
      record { count = 0; few = omega arith; told = told; holders = holders; shared = λ some. absurd (omega arith) };
}

-- ---- one more
unlike_at : (x y : ℕ) (b : Bool) → is_at (nat_cmp x) y ≡ b → (y ≡ x → ⊥) → is_at (nat_cmp x) y ≡ false
unlike_at x y b is apart = search (arith, apart, tells_apart, exact_unsigned)

module _ (m so : KeyMap) (old new : BTreeMap ℕ ℕ) (taken plan number : ℕ) (plan_fits : plan < 2 ^ 64) (fits : number < 2 ^ 64) (lacks : Lacks so (holding plan number)) (shared : IsShared m number) (more : IsOneMore number old new) where
  abbrev with_holder : KeyMap
  with_holder = insert so (key_of (holding plan number)) []

  counted_here : IsCountedSo old so m taken number → IsCountedSo new with_holder m (taken + 1) number
  counted_here was = record {
    count = suc was.count;
    few = let few = was.few in omega arith;
    told = more.1 ∙ ap (λ (k : ℕ). Some (k + 1)) (ap so_many was.told ∙ (search (arith))) ∙ (refl);
    holders = holders_joined so with_holder plan number was.count plan_fits
        (λ other other_fits apart. put_keeps_row so (holding plan number) [] (holding other number) (plan_fits, fits) (other_fits, fits) (other_plan plan number other apart))
        (λ held. no_value [] (sym held ∙ lacks)) (put_is_there so (key_of (holding plan number)) []) was.holders;
    shared = λ some. shared;
  }

  counted_there : (other : ℕ) → other < 2 ^ 64 → (other ≡ number → ⊥) → IsCountedSo old so m taken other → IsCountedSo new with_holder m (taken + 1) other
  counted_there other other_fits apart was =
      let told = more.2 other (unlike_at number other (is_at (nat_cmp number) other) refl apart) ∙ was.told in
      let holders = holders_moved so with_holder other was.count
      (λ p p_fits. put_keeps_row so (holding plan number) [] (holding p other) (plan_fits, fits) (p_fits, other_fits) (other_chunk plan number p other apart)) was.holders in
      record { count = was.count; few = (let few = was.few in omega arith); told = told; holders = holders; shared = was.shared }

  counted_any : (other : ℕ) → other < 2 ^ 64 → IsCountedSo old so m taken other → IsCountedSo new with_holder m (taken + 1) other
  counted_any other other_fits was = elim (cases_eq other number) [
    | inl same ↦ subst (λ (k : ℕ). IsCountedSo new with_holder m (taken + 1) k) (sym same) (counted_here (subst (λ (k : ℕ). IsCountedSo old so m taken k) same was))
    | inr apart ↦ counted_there other other_fits apart was
  ]

found_more : (so : KeyMap) (rows : List Entry) (e : Entry) (key : List ℕ) → ((k : List ℕ) → get so k ≡ find key_cmp k rows) → find key_cmp e.0 rows ≡ None → get (insert so e.0 e.1) key ≡ find key_cmp key (rows ++ e ∷ [])
found_more so rows e key found new =
    get-insert nat_list_cmp_total so e.0 e.1 key ∙ ap (cond (eq_by_cmp key_cmp key e.0) (Some e.1)) (found key) ∙ sym (find-append key_cmp nat_list_cmp_total rows e.0 e.1 key new)

pub one_counted : (m : KeyMap) (rows : List Entry) (row : Row) (old new : BTreeMap ℕ ℕ) (taken : ℕ) → AreCountedSo rows old m taken → IsNextUnder (72 ∷ []) m rows (row.key, row.value) → IsCounted row old new m → AreCountedSo (rows ++ (row.key, row.value) ∷ []) new m (taken + 1)
one_counted m rows row old new taken was next one =
    let e : Entry = (row.key, row.value) in
    let lacks : Lacks was.so (holding one.plan one.number) = was.found (key_of (holding one.plan one.number)) ∙ ap (λ (k : List ℕ). find key_cmp k rows) (sym one.key) ∙ next.new in
    record {
      so = with_holder m was.so old new taken one.plan one.number one.fits.0 one.fits.1 lacks one.shared one.more;
      found = λ k. ap (λ (x : KeyMap). get x k) (λ i. insert was.so (sym one.key i) (sym one.value i)) ∙ found_more was.so rows e k was.found next.new;
      counted = λ number fits. counted_any m was.so old new taken one.plan one.number one.fits.0 one.fits.1 lacks one.shared one.more number fits (was.counted number fits);
    }

-- ---- all
pub all_counted : (m : KeyMap) (rows : List Entry) (counts : BTreeMap ℕ ℕ) (taken : ℕ) → taken < 2 ^ 64 → AreCountedSo rows counts m taken → under (72 ∷ []) (entries m) ≡ rows → AreCounts counts m
all_counted m rows counts taken taken_fits are whole number fits =
    let is = are.counted number fits in
    let holders = holders_moved are.so m number is.count
    (λ plan small. found_among m (72 ∷ []) rows (key_of (holding plan number)) refl whole
    ∙ sym (are.found (key_of (holding plan number)))) is.holders in
    record { count = is.count; fits = (let few = is.few in omega arith); told = is.told; holders = holders; shared = is.shared }
