-- The rows that a scan takes from the first on are rows of the map.
use Rattle.std.specs.{Cmp.{nat_cmp_is, Lexicographic.slice_cmp}, FinMap.{entries, find, get}, List.AllByRecursion, Ordering.{eq_by_cmp, nat_cmp, ordering_then}, Prelude.Option}
use Rattle.{std.{specs.declared.cmp.Ordering.TheVariants.Less, proofs.lemmas.Bool.cases_lt}, btree_scan.specs.Prefixes.under, desk_store_opening_tidy.specs.Rows.{IsPast, IsRow}}
use Rattle.{std.proofs.Common.{◌≡◌, inl, inr, ◌≤◌, ◌<◌, ℕ, List, [], ◌∷◌, ◌++◌, cond, Some, drop, get_or, refl, sym, ap, subst, arith}, page_btree.specs.node.claim.Entries.Entry}
use Rattle.{desk_store_opening_tidy.specs.Numbers.{IsBelow, AllBelow, AreSoundRows, NumbersFit}, desk_store_rows.specs.claim.Keys.{RowKey, key_of, block, pair, chunk}}
use Rattle.{desk_store_rows.specs.{claim.Rows.{KeyMap, Has}, declared.value.Counters.Counters}, page_btree.specs.node.claim.Places.{key_cmp, Rises}}
use Rattle.btree_scan.proofs.{Prefixes.{head_rises, under_rises}, RowsFound.{all_found, all_rises, found_among}}
use Rattle.page_btree.proofs.node.Laws.{flip_less, above_middle, find_none}

all_rise : (m : KeyMap) → Rises (under [] (entries m))
all_rise m = under_rises [] (entries m) (all_rises m)

get_is : (m : KeyMap) (key : List ℕ) (rows : List Entry) → under [] (entries m) ≡ rows → get m key ≡ find key_cmp key rows
get_is m key rows whole = found_among m [] rows key (search (arith)) whole

-- a key below that of a row is found before it, or nowhere
found_before : (key : List ℕ) (taken : List Entry) (e : Entry) (more : List Entry) → Rises (taken ++ e ∷ more) → key_cmp key e.0 ≡ Less → find key_cmp key (taken ++ e ∷ more) ≡ find key_cmp key taken
found_before key [] e more rises less = find_none key (e ∷ more) 0 (λ j few within. absurd (omega arith)) (λ j from within. above_middle (e ∷ more) key 0 rises (flip_less key e.0 less) j from within)
found_before key (f ∷ taken) e more rises less = ap (λ (r : Option (List ℕ)). cond (eq_by_cmp key_cmp key f.0) (Some f.1) r) (found_before key taken e more (head_rises f (taken ++ e ∷ more) rises).1 less)

-- ---- rows that are below
abbrev pub IsEntryBelow : Counters → Entry → Type 0
IsEntryBelow next e = (of : RowKey) → NumbersFit of → e.0 ≡ key_of of → IsBelow next of e.1

abbrev pub AreEntriesBelow : Counters → List Entry → Type 0
AreEntriesBelow next es = AllByRecursion (IsEntryBelow next) es

below_found : (next : Counters) (of : RowKey) (value : List ℕ) (es : List Entry) → AreEntriesBelow next es → NumbersFit of → find key_cmp (key_of of) es ≡ Some value → IsBelow next of value
below_found next of value es all fits there = all_found (IsEntryBelow next) (key_of of) value es all there of fits refl

-- ---- rows that come before one that is past
less_tag : (tag other : ℕ) (rest more : List ℕ) → tag < other → key_cmp (tag ∷ rest) (other ∷ more) ≡ Less
less_tag tag other rest more less = ap (λ (r : _). ordering_then r (slice_cmp nat_cmp rest more)) (sym (nat_cmp_is tag other Less less))

before_past : (key : List ℕ) (tag : ℕ) (rest : List ℕ) → tag ≤ 86 → IsPast key → key_cmp (tag ∷ rest) key ≡ Less
before_past key tag rest few past = subst (λ (k : List ℕ). key_cmp (tag ∷ rest) k ≡ Less) (sym past.is) (let over = past.past in less_tag tag past.tag rest past.rest (omega arith))

module _ (next : Counters) (m : KeyMap) (taken : List Entry) (e : Entry) (more : List Entry) (whole : under [] (entries m) ≡ taken ++ e ∷ more) (all : AreEntriesBelow next taken) (past : IsPast e.0) where
  found_so : (of : RowKey) (value : List ℕ) → NumbersFit of → key_cmp (key_of of) e.0 ≡ Less → Has m of value → IsBelow next of value
  found_so of value fits less has = search (arith, below_found, found_before, all_rise, get_is)

  pub past_below : AllBelow next m
  past_below (block load place) value fits has = tt
  past_below (pair load place) value fits has = tt
  past_below (chunk number piece) value fits has = tt
  past_below of value fits has = found_so of value fits (before_past e.0 (get_or (key_of of) 0 0) (drop 1 (key_of of)) (omega arith) past) has

-- ---- rows whose keys are those of rows
abbrev pub AreRowEntries : List Entry → Type 0
AreRowEntries es = AllByRecursion (λ e. IsRow e.0) es

row_found : (key value : List ℕ) (es : List Entry) → AreRowEntries es → find key_cmp key es ≡ Some value → IsRow key
row_found key value es all there = all_found (λ e. IsRow e.0) key value es all there

pub all_sound : (next : Counters) (m : KeyMap) (taken : List Entry) → under [] (entries m) ≡ taken → AreEntriesBelow next taken → AreRowEntries taken → AreSoundRows next m
all_sound next m taken whole below rows = search (arith, below_found, get_is, row_found, get_is)

before_key : (key other : List ℕ) → IsPast other → (IsPast key → ⊥) → key_cmp key other ≡ Less
before_key [] other past before = subst (λ (k : List ℕ). key_cmp [] k ≡ Less) (sym past.is) refl
before_key (tag ∷ rest) other past before = elim (cases_lt 86 tag) [
  | inl above ↦ absurd (before (record { tag = tag; rest = rest; is = refl; past = above }))
  | inr few ↦ before_past other tag rest few past
]

pub past_sound : (next : Counters) (m : KeyMap) (taken : List Entry) (e : Entry) (more : List Entry) → under [] (entries m) ≡ taken ++ e ∷ more → AreEntriesBelow next taken → AreRowEntries taken → IsPast e.0 → AreSoundRows next m
past_sound next m taken e more whole below rows past = search (arith, past_below, row_found, found_before, all_rise, before_key, e.0, get_is)
