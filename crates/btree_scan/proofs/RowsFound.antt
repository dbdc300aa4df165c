-- Rows under a prefix and rows from a key on are rows of the map. What is so of each of some rows is so of one found among them.
use Rattle.std.specs.{Cmp.Lexicographic.nat_list_cmp_total, FinMap.{entries, entries_sorted, find, get, get-entries, is_sorted, Entries.find-where_key}, Prelude.{Some, None}}
use Rattle.std.specs.{List.{AllByRecursion, starts_with}, Ordering.{is_eq, is_gt, eq_by_cmp}, declared.cmp.Ordering.{Ordering, TheVariants.{Less, Greater}}}
use Rattle.std.proofs.{Common.{◌≡◌, ℕ, List, [], ◌∷◌, ◌++◌, Bool, true, false, cond, nat_eq, refl, sym, ap, subst, ◌∙◌, inl, inr}, lemmas.{Bool.cases_Bool, Cmp.tied_itself}}
use Rattle.{std.proofs.lemmas.List.append-nil, btree_scan.specs.Prefixes.{AllFrom, AllUnder, is_under, under}, page_btree.specs.{gets.claim.Keys.KeyMap, node.Places.entries_from}}
use Rattle.{page_btree.specs.node.claim.{Entries.Entry, Places.{key_cmp, Rises}}, btree_scan.proofs.Prefixes.{all_from_key, find_under, rises_from_key, under_rises}}
use Rattle.page_btree.proofs.gets.Booleans.{true_is}
use Rattle.page_btree.proofs.node.Laws.{flip_less, same_key}
use Rattle.page_btree.proofs.gets.Placed.{is_equal}
use Rattle.page_btree.proofs.gets.Rows.{all_append, all_map, all_rest, find_right, rises_from, rises_under}

-- ---- each of some rows
pub all_more : (P : Entry → Type 0) (es : List Entry) (e : Entry) → P e → AllByRecursion P es → AllByRecursion P (es ++ e ∷ [])
all_more P es e is all = all_append P es (e ∷ []) all (is, tt)

pub all_found : (P : Entry → Type 0) (key value : List ℕ) (es : List Entry) → AllByRecursion P es → find key_cmp key es ≡ Some value → P (key, value)
all_found P key value [] all there = absurd (cc)
all_found P key value (e ∷ es) all there = elim (cases_Bool (eq_by_cmp key_cmp key e.0)) [
  | inl same ↦
      let keys : e.0 ≡ key = sym (same_key key e.0 (is_equal (key_cmp key e.0) same)) in
      let values : e.1 ≡ value = cc in
      subst P (λ i. (keys i, values i)) all.0
  | inr other ↦ all_found P key value es all.1 (sym (ap (λ (b : Bool). cond b (Some e.1) (find key_cmp key es)) other) ∙ there)
]

found_first : (e : Entry) (more : List Entry) → find key_cmp e.0 (e ∷ more) ≡ Some e.1
found_first e more = ap (λ (o : Ordering). cond (is_eq o) (Some e.1) (find key_cmp e.0 more)) (tied_itself nat_list_cmp_total e.0)

pub all_rises : (m : KeyMap) → Rises (entries m)
all_rises m = true_is (is_sorted key_cmp (entries m)) (entries_sorted m)

-- ---- rows under a prefix
all_under : (prefix : List ℕ) (es : List Entry) → AllUnder prefix (under prefix es)
all_under prefix [] = tt
all_under prefix (e ∷ es) = elim (is_under prefix e) as (λ b. is_under prefix e ≡ b → AllUnder prefix (cond b (e ∷ under prefix es) (under prefix es))) [
  | true ↦ λ is. (is, all_under prefix es)
  | false ↦ λ is. all_under prefix es
] refl

-- the next row stands in the map, under the prefix, and wasn't taken before
pub record IsNextUnder (prefix : List ℕ) (m : KeyMap) (taken : List Entry) (e : Entry) : Type 0 where
  pub under : starts_with nat_eq e.0 prefix ≡ true
  pub there : get m e.0 ≡ Some e.1
  pub new : find key_cmp e.0 taken ≡ None

pub next_under : (m : KeyMap) (prefix : List ℕ) (taken : List Entry) (e : Entry) (more : List Entry) → under prefix (entries m) ≡ taken ++ e ∷ more → IsNextUnder prefix m taken e
next_under m prefix taken e more whole =
    let rises : Rises (taken ++ e ∷ more) = subst Rises whole (under_rises prefix (entries m) (all_rises m)) in
    let above = all_map (λ f. key_cmp f.0 e.0 ≡ Less) (λ f. key_cmp e.0 f.0 ≡ Greater) (λ f less. flip_less f.0 e.0 less) taken (rises_under taken e more rises) in
    let on = (all_rest (λ f. is_under prefix f ≡ true) taken (e ∷ more) (subst (AllUnder prefix) whole (all_under prefix (entries m)))).0 in
    record {
      under = on;
      there = get-entries m e.0 ∙ sym (find_under prefix e.0 (entries m) on) ∙ ap (λ (es : List Entry). find key_cmp e.0 es) whole ∙ find_right e.0 taken (e ∷ more) above ∙ found_first e more;
      new = ap (λ (es : List Entry). find key_cmp e.0 es) (sym (append-nil taken)) ∙ find_right e.0 taken [] above;
    }

-- where these are all rows, a key is found among them as in the map
pub found_among : (m : KeyMap) (prefix : List ℕ) (taken : List Entry) (key : List ℕ) → starts_with nat_eq key prefix ≡ true → under prefix (entries m) ≡ taken → get m key ≡ find key_cmp key taken
found_among m prefix taken key on all = get-entries m key ∙ sym (find_under prefix key (entries m) on) ∙ ap (λ (es : List Entry). find key_cmp key es) all

-- ---- rows from a key on
found_from : (key k : List ℕ) (es : List Entry) → is_gt (key_cmp key k) ≡ false → find key_cmp k (entries_from key es) ≡ find key_cmp k es
found_from key k es from =
    find-where_key key_cmp (λ x. cond (is_gt (key_cmp key x)) false true) k (λ x tied. ap (λ y. cond (is_gt (key_cmp key y)) false true) (sym (same_key k x tied))) es
    ∙ ap (λ (b : Bool). cond (cond b false true) (find key_cmp k es) None) from

pub among_from : (m : KeyMap) (key k value : List ℕ) (all : List Entry) → entries_from key (entries m) ≡ all → get m k ≡ Some value → is_gt (key_cmp key k) ≡ false → find key_cmp k all ≡ Some value
among_from m key k value all whole there from = ap (λ (es : List Entry). find key_cmp k es) (sym whole) ∙ found_from key k (entries m) from ∙ sym (get-entries m k) ∙ there

pub first_none : (m : KeyMap) (key : List ℕ) → entries_from key (entries m) ≡ [] → (k value : List ℕ) → get m k ≡ Some value → is_gt (key_cmp key k) ≡ false → ⊥
first_none m key none k value there from = let clash = among_from m key k value [] none there from in cc

module _ (m : KeyMap) (key : List ℕ) (e : Entry) (more : List Entry) (first : entries_from key (entries m) ≡ e ∷ more) where
  pub first_is_from : is_gt (key_cmp key e.0) ≡ false
  first_is_from = (subst (AllFrom key) first (all_from_key key (entries m))).0

  pub first_there : get m e.0 ≡ Some e.1
  first_there = get-entries m e.0 ∙ sym (found_from key e.0 (entries m) first_is_from) ∙ ap (λ (es : List Entry). find key_cmp e.0 es) first ∙ found_first e more

  -- it is the least of them
  pub first_least : (k value : List ℕ) → get m k ≡ Some value → is_gt (key_cmp key k) ≡ false → is_gt (key_cmp e.0 k) ≡ false
  first_least k value there from =
      all_found (λ f. is_gt (key_cmp e.0 f.0) ≡ false) k value (e ∷ more) (rises_from e more (subst Rises first (rises_from_key key (entries m) (all_rises m)))) (among_from m key k value (e ∷ more) first there from)
