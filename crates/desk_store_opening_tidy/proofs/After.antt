-- Rows as commands keep them have none after the seal's that no desk has.
use Rattle.std.specs.{Cmp.nat_cmp_is, FinMap.{entries, get}, Int.from_be_bytes, List.starts_with, Ordering.{is_gt, nat_cmp, ordering_then}, Prelude.IfSome}
use Rattle.std.{specs.declared.cmp.Ordering.{Ordering, TheVariants.{Less, Greater}}, proofs.lemmas.{Bool.{cases_lt, Decides.nat_tests}, List.length-take, Option.slice_get_past}}
use Rattle.std.proofs.Common.{◌≡◌, ◌⊎◌, inl, inr, ◌<◌, ◌≤◌, ◌+◌, ◌-◌, ◌^◌, ℕ, List, [], ◌∷◌, ◌++◌, length, take, drop, get_or, Bool, true, false, cond, nat_eq, Option, Some, None, refl, sym, ap, subst, ◌∙◌, w64, arith}
use Rattle.{std.proofs.lemmas.Nat.from_be_bytes-to_be_bytes_8, desk_model.specs.claim.{Desk.Desk, Geography.GeographyModel}, desk_store_opening_tidy.specs.Numbers.IsDue}
use Rattle.desk_store_opening_tidy.specs.Rows.{AreOfLoadsTo, AreSealCounted, ComesBefore, HasChunksBelow, IsNextLoad, IsOfLoad, IsPast, IsSealCounted, IsUnder, NoneFrom, after_load}
use Rattle.{desk_store_opening_tidy.specs.claim.Rows.IsFrom, desk_store_pages.specs.Reading.StandsAs, desk_store_rows.specs.Keys.{load_prefix, chunks_prefix}}
use Rattle.desk_store_rows.specs.claim.{DeskRows.IsDesk, GeographyRows.{IsGeography, IsSealed, geography_rows, neighbours_bytes}, Rows.{KeyMap, Has, element_row}}
use Rattle.desk_store_rows.specs.claim.Keys.{RowKey, key_of, Fits, begun, seal, block, pair, chunk, in_two, in_four, in_eight, blocks_prefix, pairs_prefix, chunk_prefix}
use Rattle.desk_store_rows.specs.{claim.{Tidy.{AreOwned, AreRows, IsLoad, Tidy}, Values.{seal_bytes, block_bytes}}, declared.value.{Counters.Counters, SealRow.SealRow}}
use Rattle.{page_btree.specs.node.{Places.entries_from, claim.{Entries.Entry, Places.key_cmp}}, btree_scan.proofs.Prefixes.{between_under, under_is_from}}
use Rattle.desk_store_opening_tidy.proofs.FirstRows.{clash, decided, first_is_from, first_least, first_there, from_trans, less_from, lower_tag}
use Rattle.desk_store_rows.proofs.{Frames.either_way, KeyPrefixes.{starts_itself, starts_same}, Numbers.numbers_decide, TidyFree.one_next}
use Rattle.desk_store_rows.proofs.OneGeography.{no_value, seal_load, value_is, seal_blocks, seal_pairs}
use Rattle.page_btree.proofs.node.Laws.{flip_less}

-- ---- what keys begin with
pub prefix_same : (prefix a b : List ℕ) → key_cmp (prefix ++ a) (prefix ++ b) ≡ key_cmp a b
prefix_same [] a b = refl
prefix_same (x ∷ prefix) a b = search (arith, (prefix_same prefix a b))

-- a key with a tag from one on isn't below that
pub from_tag : (tag other : ℕ) (rest : List ℕ) → tag ≤ other → IsFrom (tag ∷ []) (other ∷ rest)
from_tag tag other rest few = search (arith, cases_lt, nothing_above)
  where
    nothing_above : (l : List ℕ) → is_gt (key_cmp [] l) ≡ false
    nothing_above l = search (arith)

pub past_from : (key : List ℕ) → IsPast key → IsFrom (87 ∷ []) key
past_from key past = subst (λ (k : List ℕ). IsFrom (87 ∷ []) k) (sym past.is) (let over = past.past in from_tag 87 past.tag past.rest (omega arith))

pub past_more : (key other : List ℕ) → IsPast key → IsFrom key other → IsPast other
past_more key other past from = search (arith, clash, cases_lt, lower_tag)

-- ---- chunks
module _ (m : KeyMap) (tidy : Tidy m) where
  chunk_below : (row : RowKey) (value : List ℕ) → Fits row → Has m row value → IsFrom (chunk_prefix tidy.next.chunk) (key_of row) → ⊥
  chunk_below (chunk number piece) value fits has from =
      let (plan, is) = tidy.owned.chunks number piece value fits has in
      let less : number < tidy.next.chunk = tidy.below.named_chunks plan number is in
      let order : key_cmp (chunk_prefix tidy.next.chunk) (chunk_prefix number) ≡ Greater =
      (numbers_decide chunks_prefix tidy.next.chunk number).2 tidy.fits.chunk_fits fits.0 ∙ sym (nat_cmp_is tidy.next.chunk number Greater less) in
      let above : key_cmp (chunk_prefix tidy.next.chunk) (key_of (chunk number piece)) ≡ Greater = decided Greater (λ e. cc) (chunk_prefix tidy.next.chunk)
      (chunk_prefix number) [] (in_two piece) refl order in
      clash (is_gt (key_cmp (chunk_prefix tidy.next.chunk) (key_of (chunk number piece)))) (ap is_gt above) from
  chunk_below row value fits has from = lower_tag (get_or (key_of row) 0 0) 107 (in_eight tidy.next.chunk) (drop 1 (key_of row)) (omega arith) from

  pub kept_chunks : HasChunksBelow tidy.next.chunk m
  kept_chunks key value there from under =
      let (row, fits, is) = tidy.rows key value there in
      chunk_below row value fits (ap (get m) (sym is) ∙ there) (subst (λ (k : List ℕ). IsFrom (chunk_prefix tidy.next.chunk) k) is from)

-- ---- the sealed load
no_element : {X : Type 0} (bytes : X → List ℕ) (n : ℕ) (xs : List X) (place : ℕ) (value : List ℕ) → length xs ≤ place → element_row bytes (take n xs) place ≡ Some value → ⊥
no_element bytes n xs place value few there = search (arith, length-take, no_value, slice_get_past)

not_below : (a b : ℕ) → is_gt (nat_cmp a b) ≡ false → a ≤ b
not_below a b not = grind (arith, nat_tests)

loads_same : (a b kind other : ℕ) (rest more : List ℕ) → a < 2 ^ 64 → b < 2 ^ 64 → load_prefix a ++ kind ∷ rest ≡ load_prefix b ++ other ∷ more → a ≡ b
loads_same a b kind other rest more fits other_fits same = sym (from_be_bytes-to_be_bytes_8 a fits) ∙ ap (λ (l : List ℕ). from_be_bytes w64 (drop 1 l)) same
    ∙ from_be_bytes-to_be_bytes_8 b other_fits

module _ (m : KeyMap) (s : SealRow) (s_fits : s.load < 2 ^ 64) where
  -- a row from a list's end on isn't one of its elements
  past_end : {X : Type 0} (bytes : X → List ℕ) (kind n : ℕ) (xs : List X) (count load place : ℕ) (value : List ℕ) → count ≡ length xs → count < 2 ^ 32 → load < 2 ^ 64 → place < 2 ^ 32
      → IsFrom ((load_prefix s.load ++ kind ∷ []) ++ in_four count) ((load_prefix load ++ kind ∷ []) ++ in_four place)
      → starts_with nat_eq ((load_prefix load ++ kind ∷ []) ++ in_four place) (load_prefix s.load ++ kind ∷ []) ≡ true
      → (s.load ≡ load → element_row bytes (take n xs) place ≡ Some value) → ⊥
  past_end bytes kind n xs count load place value long count_fits load_fits place_fits from on there =
      let same = starts_same (load_prefix s.load ++ kind ∷ []) (load_prefix load ++ kind ∷ []) (in_four place) refl on in
      let here = subst (λ (l : List ℕ). IsFrom ((load_prefix s.load ++ kind ∷ []) ++ in_four count) (l ++ in_four place)) (sym same) from in
      let few = not_below count place (ap is_gt (sym ((numbers_decide (load_prefix s.load ++ kind ∷ []) count place).1 count_fits place_fits)) ∙ here) in
      no_element bytes n xs place value (omega (arith, few, long)) (there (loads_same s.load load kind kind [] [] s_fits load_fits same))

  other_kind : (kind other load place : ℕ) → (kind ≡ other → ⊥) → starts_with nat_eq ((load_prefix load ++ other ∷ []) ++ in_four place) (load_prefix s.load ++ kind ∷ []) ≡ true → ⊥
  other_kind kind other load place apart on = apart (ap (λ (l : List ℕ). get_or l 9 0) (starts_same (load_prefix s.load ++ kind ∷ []) (load_prefix load ++ other ∷ []) (in_four place) refl on))

  module _ (g : GeographyModel) (is : IsSealed m s.load g) (blocks : s.blocks ≡ length g.blocks) (pairs : s.pairs ≡ length g.pairs) (blocks_fit : s.blocks < 2 ^ 32) (pairs_fit : s.pairs < 2 ^ 32) where
    abbrev IsCounted : List ℕ → Type 0
    IsCounted key = (IsFrom (key_of (block s.load s.blocks)) key → starts_with nat_eq key (blocks_prefix s.load) ≡ true → ⊥)
        × (IsFrom (key_of (pair s.load s.pairs)) key → starts_with nat_eq key (pairs_prefix s.load) ≡ true → ⊥)

    row_counted : (row : RowKey) (value : List ℕ) → Fits row → Has m row value → IsCounted (key_of row)
    row_counted (block load place) value fits has = (
      λ from on. past_end block_bytes 98 (geography_rows g) g.blocks s.blocks load place value blocks blocks_fit fits.0 fits.1 from on
          (λ one. sym (is.rows.blocks place fits.1) ∙ subst (λ (n : ℕ). Has m (block n place) value) (sym one) has),
      λ from on. other_kind 112 98 load place (λ same. omega (arith, same)) on,
    )
    row_counted (pair load place) value fits has = (
      λ from on. other_kind 98 112 load place (λ same. omega (arith, same)) on,
      λ from on. past_end neighbours_bytes 112 (geography_rows g - length g.blocks) g.pairs s.pairs load place value pairs pairs_fit fits.0 fits.1 from on
          (λ one. sym (is.rows.pairs place fits.1) ∙ subst (λ (n : ℕ). Has m (pair n place) value) (sym one) has),
    )
    row_counted _ value fits has = (λ from on. cc, λ from on. cc)

    counted_at : AreRows m → (key value : List ℕ) → get m key ≡ Some value → IsCounted key
    counted_at rows key value there = let (row, fits, is) = rows key value there in subst IsCounted (sym is) (row_counted row value fits (ap (get m) (sym is) ∙ there))

    seal_counted : AreRows m → IsSealCounted m s
    seal_counted rows =
        record { blocks = λ key value there. (counted_at rows key value there).0; pairs = λ key value there. (counted_at rows key value there).1 }

kept_sealed : (m : KeyMap) (geography : Option GeographyModel) → IsGeography m geography → AreRows m → AreSealCounted m
kept_sealed m geography lacks rows s load_fits blocks_fit pairs_fit has = search (arith, no_value, value_is, seal_load, seal_counted, seal_blocks, seal_pairs)

pub kept_counted : (m : KeyMap) (desk : Desk) → IsDesk m desk → AreRows m → AreSealCounted m
kept_counted m desk is rows = kept_sealed m desk.geography is.geography rows

-- ---- loads
module _ (m : KeyMap) (owned : AreOwned m) (load kind : ℕ) (rest : List ℕ) (load_fits : load < 2 ^ 64) where
  load_of : (row : RowKey) (value : List ℕ) → Fits row → Has m row value → load_prefix load ++ kind ∷ rest ≡ key_of row → IsLoad m load
  load_of (block other place) value fits has same = subst (IsLoad m) (sym (loads_same load other kind 98 rest (in_four place) load_fits fits.0 same))
      (owned.blocks other place value fits has)
  load_of (pair other place) value fits has same = subst (IsLoad m) (sym (loads_same load other kind 112 rest (in_four place) load_fits fits.0 same))
      (owned.pairs other place value fits has)
  load_of row value fits has same = absurd (let e : 103 ≡ get_or (key_of row) 0 0 = ap (λ (l : List ℕ). get_or l 0 0) same in omega (arith, e))

pub kept_load : (m : KeyMap) → AreOwned m → AreRows m → (e : Entry) (load : ℕ) → get m e.0 ≡ Some e.1 → IsUnder load e.0 → IsLoad m load
kept_load m owned rows e load there under = search (arith, rows, e.0, e.1, load_of, under.kind, under.rest, under.fits, under.is)

-- fewer rows come from a later key on
pub fewer : (a b : List ℕ) (es : List Entry) → IsFrom a b → entries_from b (entries_from a es) ≡ entries_from b es
fewer a b [] later = refl
fewer a b (e ∷ es) later = by (is_gt (key_cmp a e.0)) refl (fewer a b es later)
  where
    by : (r : Bool) → is_gt (key_cmp a e.0) ≡ r → entries_from b (entries_from a es) ≡ entries_from b es → entries_from b (cond (cond r false true) (e ∷ entries_from a es) (entries_from a es)) ≡ entries_from b (e ∷ es)
    by false is rest = ap (λ (l : List Entry). cond (cond (is_gt (key_cmp b e.0)) false true) (e ∷ l) l) rest
    by true is rest = either_way (is_gt (key_cmp b e.0)) (entries_from b (entries_from a es) ≡ entries_from b (e ∷ es))
        (λ above. rest ∙ sym (ap (λ (r : Bool). cond (cond r false true) (e ∷ entries_from b es) (entries_from b es)) above))
        (λ from. absurd (clash (is_gt (key_cmp a e.0)) is (from_trans a b e.0 later from)))

pub few_from : (b : List ℕ) (es : List Entry) → length (entries_from b es) ≤ length es
few_from b [] = omega arith
few_from b (e ∷ es) = search (arith, (few_from b es), e.0)

-- fewer rows come from a key above the first one on
pub fewer_rows : (m : KeyMap) (from next : List ℕ) (e : Entry) (more : List Entry) → entries_from from (entries m) ≡ e ∷ more → key_cmp e.0 next ≡ Less → length (entries_from next (entries m)) < length (entries_from from (entries m))
fewer_rows m from next e more first below = search (arith, from_trans, e.0, first_is_from, less_from, fewer, flip_less, few_from)

module _ (m : KeyMap) (from : List ℕ) (e : Entry) (more : List Entry) (first : entries_from from (entries m) ≡ e ∷ more) (load : ℕ) (under : IsUnder load e.0) where
  abbrev next : List ℕ
  next = after_load load

  below_next : key_cmp e.0 next ≡ Less
  below_next = subst (λ (k : List ℕ). key_cmp k next ≡ Less) (sym under.is)
      (prefix_same (load_prefix load) (under.kind ∷ under.rest) (113 ∷ [])
      ∙ ap (λ (r : Ordering). ordering_then r (key_cmp under.rest [])) (sym (nat_cmp_is under.kind 113 Less (search (arith)))))

  on : starts_with nat_eq e.0 (load_prefix load) ≡ true
  on = subst (λ (k : List ℕ). starts_with nat_eq k (load_prefix load) ≡ true) (sym under.is) (starts_itself (load_prefix load) (under.kind ∷ under.rest))

  of_load : IsLoad m load → AreOfLoadsTo from m → AreOfLoadsTo next m
  of_load known before key value there past below = either_way (is_gt (key_cmp from key)) (IsOfLoad m key)
      (λ above. before key value there past (λ from_key. clash (is_gt (key_cmp from key)) above from_key))
      (λ from_key.
      let later = from_trans (load_prefix load) e.0 key (under_is_from (load_prefix load) e.0 on) (first_least m from e more first key value there from_key) in
      let short : is_gt (key_cmp next key) ≡ true = either_way (is_gt (key_cmp next key)) (is_gt (key_cmp next key) ≡ true) (λ is. is) (λ is. absurd (below is)) in
      record { load = load; fits = under.fits; is = known; under = between_under (load_prefix load) key next later short (starts_itself (load_prefix load) (113 ∷ [])) })

  pub goes_on : IsLoad m load → AreOfLoadsTo from m → ComesBefore true from next m
  goes_on known before = (of_load known before, fewer_rows m from next e more first below_next)

pub ends_there : (m : KeyMap) (from after : List ℕ) → IsNextLoad from m None → AreOfLoadsTo from m → ComesBefore false from after m
ends_there m from after none before key value there past short = search (arith, before, clash, short, none)

pub begins : (m : KeyMap) → AreOfLoadsTo (87 ∷ []) m
begins m key value there past below = absurd (below (past_from key past))

-- ---- the first key after the version's
past_row : (row : RowKey) → IsPast (key_of row) → (IsFrom chunks_prefix (key_of row) → ⊥) → ((load place : ℕ) → (key_of row ≡ key_of (block load place)) ⊎ (key_of row ≡ key_of (pair load place)) → ⊥) → ⊥
past_row (block number place) past other load = load number place (inl refl)
past_row (pair number place) past other load = load number place (inr refl)
past_row (chunk number piece) past other load = other (from_tag 107 107 (drop 1 (key_of (chunk number piece))) (omega arith))
past_row row past other load = search (arith, past.is, past.past)

pub no_load : (m : KeyMap) (from : List ℕ) (e : Entry) (more : List Entry) → entries_from from (entries m) ≡ e ∷ more → IsPast from → AreRows m → (IsFrom chunks_prefix e.0 → ⊥) → ((load place : ℕ) → (e.0 ≡ key_of (block load place)) ⊎ (e.0 ≡ key_of (pair load place)) → ⊥) → ⊥
no_load m from e more first past kept other load =
    let (row, fits, is) = kept e.0 e.1 (first_there m from e more first) in
    let there : IsPast (key_of row) = subst IsPast is (past_more from e.0 past (first_is_from m from e more first)) in
    past_row row there (λ at. other (subst (λ (k : List ℕ). IsFrom chunks_prefix k) (sym is) at))
    (λ number place of. load number place (subst (λ (k : List ℕ). (k ≡ key_of (block number place)) ⊎ (k ≡ key_of (pair number place))) (sym is) of))

-- ---- whether a load is known
pub sealed_known : (m : KeyMap) (sealed : Option SealRow) (load : ℕ) → StandsAs seal_bytes (key_of seal) m sealed → IfSome sealed (λ row. row.load ≡ load) → (sealed ≡ None → ⊥) → IsLoad m load
sealed_known m sealed load stands is some = search (arith, some)

not_sealed : (m : KeyMap) (sealed : Option SealRow) (s : SealRow) (load : ℕ) → StandsAs seal_bytes (key_of seal) m sealed → IfSome sealed (λ row. (row.load < 2 ^ 64) × (row.load ≡ load → ⊥)) → load < 2 ^ 64 → Has m seal (seal_bytes s) → s.load ≡ load → ⊥
not_sealed m None s load stands other fits has same = no_value (seal_bytes s) (sym has ∙ sym stands)
not_sealed m (Some row) s load stands other fits has same =
    other.1 (seal_load row s other.0 (subst (λ (n : ℕ). n < 2 ^ 64) (sym same) fits) (value_is (seal_bytes row) (seal_bytes s) (stands ∙ has)) ∙ same)

pub mark_known : (m : KeyMap) (sealed : Option SealRow) (load : ℕ) → StandsAs seal_bytes (key_of seal) m sealed → IfSome sealed (λ row. (row.load < 2 ^ 64) × (row.load ≡ load → ⊥)) → load < 2 ^ 64 → IsLoad m load → Has m (begun load) []
mark_known m sealed load stands other fits known = search (arith, not_sealed)

-- ---- the seal's row that was read
pub one_counted : (m : KeyMap) (row : SealRow) → row.load < 2 ^ 64 → row.blocks < 2 ^ 32 → row.pairs < 2 ^ 32 → StandsAs seal_bytes (key_of seal) m (Some row) → IsSealCounted m row → AreSealCounted m
one_counted m row load_is blocks_is pairs_is stands counted s load_fits blocks_fit pairs_fit has = search (arith, value_is, seal_load, seal_blocks, seal_pairs)

-- ---- what is due
pub due_chunks : (next : Counters) (m : KeyMap) → IsDue next m → HasChunksBelow next.chunk m
due_chunks next m due =
    let tidy = due.kept.tidy in
    subst (λ (n : Counters). HasChunksBelow n.chunk m) (one_next m tidy.next next tidy.fits due.fits tidy.is_next due.is_next) (kept_chunks m tidy)

pub none_moved : (m : KeyMap) (k l p q : List ℕ) → k ≡ l → p ≡ q → NoneFrom k p m → NoneFrom l q m
none_moved m k l p q keys prefixes none = subst (λ (x : List ℕ). NoneFrom l x m) prefixes (subst (λ (x : List ℕ). NoneFrom x p m) keys none)

-- ---- where a check of loads begins
pub all_left : (from : List ℕ) (es : List Entry) → length (entries_from from es) + 0 ≤ length es
all_left from es = let few = few_from from es in omega arith
