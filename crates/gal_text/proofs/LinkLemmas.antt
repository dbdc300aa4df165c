-- Pairs in their order, and which links they come from.
use Rattle.std.specs.{Bool.Decides, Cmp.{IsTotalOrder, IsEquivalence}, List.{All, Contains, HoldsAt, list_any, filter_map, cons_option, dedup}, declared.cmp.Ordering.Ordering}
use Rattle.std.{specs.List.Sorted.{IsSorted, IsStrictlySortedBy, IsNonDecreasingBy, IsPartitionPoint, IsBinarySearchResult, IsSearchInRange}, proofs.lemmas.Bool.Decides.nat_tests}
use Rattle.std.{specs.{Ordering.{nat_cmp, ordering_then, eq_by_cmp, ordering_index}, declared.cmp.Ordering.TheVariants.{Less, Equal, Greater}}, proofs.lemmas.Map.Views.tells_apart}
use Rattle.std.proofs.Common.{◌≡◌, ℕ, zero, suc, ◌+◌, ◌<◌, ◌≤◌, ◌⊎◌, inl, inr, Bool, true, false, not, cond, ◌↔◌, IsTrue, ◌&&◌, eqb, ltb, List, [], ◌∷◌, ◌++◌, length, get_or, take, Option, Some, None, Result, Ok, Err, IfOk, is_ok, MatchOption, refl, sym, ap, subst, ◌∙◌, arith, rules}
use Rattle.std.proofs.lemmas.{Bool.{and_from, and_parts, cases_Bool, cases_lt, cases_order, cond_both, eq-eqb, eqb-true, iff_false, ltb-true, lt-ltb, false≢true}, Option.cond_some}
use Rattle.std.proofs.lemmas.{Cmp.{by_ranked, nat_cmp_total, nat_eq_equiv, on_total, then_total, on_equiv, and_equiv, ranked, tied_itself}, List.Kept.IsStrictlySortedBy-dedup}
use Rattle.std.proofs.lemmas.List.{get_or_default, take_more, append-nil, Folds.{Any-from_list_any, list_any-from_Any}, Sorted.searchable_from_sorted}
use Rattle.std.proofs.lemmas.List.Elements.{Contains-append_right, All-from_recursion, All-weaker, All-push, All-contains, All-contains_itself, filter_map-append}
use Rattle.{std.proofs.lemmas.Map.Lookups.{CmpEqualImpliesEq, exact_unsigned, exact_pairs}, gal_text.specs.{claim.Units.link_of, declared.units.Link.Link}}
use Rattle.{gal_text.specs.Pairing.{AreCut, IsPairBack, IsLeastSeen, IsLeastOrNone, is_before, upward_pair, downward_pair}, desk_model.proofs.Pairs.both_equal}
use Rattle.gal_text.specs.claim.Links.{Precedes, Lists, AreRising, AreMutual, ArePairsOf, IsPairOf, IsOneWay, IsLeastOneWay}

-- ---- the order of pairs

abbrev pub pair_cmp : ℕ × ℕ → ℕ × ℕ → Ordering
pair_cmp p q = ordering_then (nat_cmp p.0 q.0) (nat_cmp p.1 q.1)

abbrev pub pair_eq : ℕ × ℕ → ℕ × ℕ → Bool
pair_eq p q = eqb p.0 q.0 && eqb p.1 q.1

pub pair_total : IsTotalOrder pair_cmp
pair_total = then_total (on_total (λ (p : ℕ × ℕ). p.0) nat_cmp_total) (on_total (λ (p : ℕ × ℕ). p.1) nat_cmp_total)

pub pair_exact : CmpEqualImpliesEq pair_cmp
pair_exact = exact_pairs nat_cmp nat_cmp exact_unsigned exact_unsigned

pub pair_ties : (p q : ℕ × ℕ) → pair_eq p q ≡ eq_by_cmp pair_cmp p q
pair_ties p q = search (rules, both_equal)

pub precedes_from_less : (p q : ℕ × ℕ) → pair_cmp p q ≡ Less → Precedes p q
precedes_from_less p q less = by_ranked (p.0 < q.0) (p.0 ≡ q.0) (q.0 < p.0) (nat_cmp p.0 q.0) (ranked p.0 q.0 _ refl)
    (λ is first. inl first)
    (λ is same. inr (same, ranked p.1 q.1 Less (sym (rw is at less))))
    (λ is after. let clash : ordering_then Greater (nat_cmp p.1 q.1) ≡ Less = rw is at less in absurd (cc))

less_from_precedes : (p q : ℕ × ℕ) → Precedes p q → pair_cmp p q ≡ Less
less_from_precedes p q (inl first) = search (rules, lt-ltb)
less_from_precedes p q (inr both) = search (rules, nat_tests)

pub rising_from_sorted : (ps : List (ℕ × ℕ)) → IsStrictlySortedBy pair_cmp ps → AreRising ps
unfolding IsStrictlySortedBy
rising_from_sorted [] sorted = tt
rising_from_sorted (p ∷ ps) sorted =
    (All-weaker (λ q. pair_cmp p q ≡ Less) (Precedes p) (precedes_from_less p) ps (All-from_recursion (λ q. pair_cmp p q ≡ Less) ps sorted.0), rising_from_sorted ps sorted.1)

pub sorted_from_rising : (ps : List (ℕ × ℕ)) → AreRising ps → IsSorted pair_cmp ps
sorted_from_rising [] rising k d low inside = absurd (omega arith)
sorted_from_rising (p ∷ ps) rising zero d low inside =
    rw (pair_total.antisymm (get_or ps 0 d) p, less_from_precedes p (get_or ps 0 d) (rising.0 0 d (omega arith))) refl
sorted_from_rising (p ∷ ps) rising (suc k) d low inside = let e : suc k + 1 ≡ suc (k + 1) = omega arith in rw e (sorted_from_rising ps rising.1 k d (omega arith) (omega arith))

pub deduped_rising : (ps : List (ℕ × ℕ)) → IsSorted pair_cmp ps → AreRising (dedup pair_eq ps)
deduped_rising ps sorted = rising_from_sorted (dedup pair_eq ps) (IsStrictlySortedBy-dedup pair_total pair_ties ps sorted)

pub pair_eq_equiv : IsEquivalence pair_eq
pair_eq_equiv = and_equiv (on_equiv (λ (p : ℕ × ℕ). p.0) nat_eq_equiv) (on_equiv (λ (p : ℕ × ℕ). p.1) nat_eq_equiv)

pub pair_eq_is : (p q : ℕ × ℕ) → pair_eq p q ≡ true → p ≡ q
pair_eq_is p q same = tells_apart pair_exact p q (sym (pair_ties p q) ∙ same)

-- ---- what a filter keeps

pub Contains-there : {X : Type 0} (x : X) (xs : List X) (y : X) → Contains xs y → Contains (x ∷ xs) y
Contains-there x xs y c = Contains-append_right (x ∷ []) xs y c

pub Contains-here : {X : Type 0} (x : X) (xs : List X) (y : X) → x ≡ y → Contains (x ∷ xs) y
Contains-here x xs y is = (0, omega arith, is)

pub Contains-cases : {X : Type 0} (x : X) (xs : List X) (y : X) → Contains (x ∷ xs) y → (x ≡ y) ⊎ Contains xs y
Contains-cases x xs y (zero, inside, is) = inl is
Contains-cases x xs y (suc k, inside, is) = inr (k, omega arith, is)

-- what a filter keeps comes from an element
module _ {X Y : Type 0} (h : X → Option Y) where
  pub record ComesFrom (xs : List X) (y : Y) : Type 0 where
    pub from : X
    pub there : Contains xs from
    pub gives : h from ≡ Some y

  cons_cases : (o : Option Y) (ys : List Y) (y : Y) → Contains (cons_option o ys) y → (o ≡ Some y) ⊎ Contains ys y
  cons_cases None ys y c = inr c
  cons_cases (Some z) ys y c = elim (Contains-cases z ys y c) [ inl same ↦ inl (ap Some same) | inr later ↦ inr later ]

  cons_keeps : (o : Option Y) (ys : List Y) (y : Y) → (o ≡ Some y) ⊎ Contains ys y → Contains (cons_option o ys) y
  cons_keeps None ys y (inl is) = absurd (cc)
  cons_keeps None ys y (inr c) = c
  cons_keeps (Some z) ys y (inl is) = Contains-here z ys y cc
  cons_keeps (Some z) ys y (inr c) = Contains-there z ys y c

  pub kept : (xs : List X) (x : X) (y : Y) → h x ≡ Some y → Contains xs x → Contains (filter_map h xs) y
  kept [] x y is c = absurd (omega (arith, c.1))
  kept (z ∷ zs) x y is c = cons_keeps (h z) (filter_map h zs) y
      (elim (Contains-cases z zs x c) [ inl same ↦ inl (ap h same ∙ is) | inr more ↦ inr (kept zs x y is more) ])

  pub comes_from : (xs : List X) (y : Y) → Contains (filter_map h xs) y → ComesFrom xs y
  comes_from [] y c = absurd (omega (arith, c.1))
  comes_from (x ∷ xs) y c = elim (cons_cases (h x) (filter_map h xs) y c) [
    | inl is ↦ record { from = x; there = Contains-here x xs x refl; gives = is }
    | inr more ↦ let f = comes_from xs y more in record { from = f.from; there = Contains-there x xs f.from f.there; gives = f.gives }
  ]

-- ---- links

pub lists_from_test : (links : List Link) (a b : ℕ) → list_any (λ l. eqb l.from a && eqb l.to b) links ≡ true → Lists links a b
lists_from_test links a b is =
    let any = Any-from_list_any (λ l. eqb l.from a && eqb l.to b) links is in
    let both = and_parts (eqb any.1.from a) (eqb any.1.to b) any.4 in
    (any.0, any.2, get_or_default links any.0 (link_of a b) any.1 any.2 ∙ any.3 ∙ λ i. record { from = eqb-true any.1.from a both.0 i; to = eqb-true any.1.to b both.1 i })

pub test_from_lists : (links : List Link) (a b : ℕ) → Lists links a b → list_any (λ l. eqb l.from a && eqb l.to b) links ≡ true
test_from_lists links a b listed =
    list_any-from_Any (λ l. eqb l.from a && eqb l.to b) links (listed.0, link_of a b, listed.1, listed.2, and_from (eqb a a) (eqb b b) (eq-eqb a a refl) (eq-eqb b b refl))

-- a pair is one that the smaller block lists
pub upward_listed : (links : List Link) (p : ℕ × ℕ) → Contains (filter_map upward_pair links) p → IsPairOf links p
upward_listed links p c =
    let f = comes_from upward_pair links p c in
    let is = cond_some (ltb f.from.from f.from.to) (f.from.from, f.from.to) p f.gives in
    subst (IsPairOf links) is.1 (record { rising = ltb-true f.from.from f.from.to is.0; listed = f.there })

pub listed_upward : (links : List Link) (p : ℕ × ℕ) → IsPairOf links p → Contains (filter_map upward_pair links) p
listed_upward links p is = search (rules, kept, lt-ltb)

pub downward_listed : (links : List Link) (p : ℕ × ℕ) → Contains (filter_map downward_pair links) p → IsPairBack links p
downward_listed links p c =
    let f = comes_from downward_pair links p c in
    let is = cond_some (ltb f.from.to f.from.from) (f.from.to, f.from.from) p f.gives in
    subst (IsPairBack links) is.1 (record { rising = ltb-true f.from.to f.from.from is.0; listed = f.there })

pub listed_downward : (links : List Link) (p : ℕ × ℕ) → IsPairBack links p → Contains (filter_map downward_pair links) p
listed_downward links p is = search (rules, kept, lt-ltb)

-- ---- one more link

pub taken_more : (links : List Link) (i : ℕ) (l : Link) → i < length links → l ≡ get_or links i l → take (i + 1) links ≡ take i links ++ l ∷ []
taken_more links i l inside is = take_more links i l inside ∙ ap (λ (x : Link). take i links ++ x ∷ []) (sym is)

pub more_kept : {Y : Type 0} (h : Link → Option Y) (links : List Link) (i : ℕ) (l : Link) (old new : List Y) → i < length links → l ≡ get_or links i l
    → old ≡ filter_map h (take i links) → new ≡ old ++ cons_option (h l) [] → new ≡ filter_map h (take (i + 1) links)
more_kept {Y} h links i l old new inside is so_far grown =
    grown ∙ ap (λ (x : List Y). x ++ cons_option (h l) []) so_far ∙ sym (filter_map-append h (take i links) (l ∷ [])) ∙ ap (filter_map h) (sym (taken_more links i l inside is))

pub pushed : (a b : ℕ) (p : ℕ × ℕ) (old new : List (ℕ × ℕ)) → a < b → new ≡ old ++ p ∷ [] → new ≡ old ++ cons_option (cond (ltb a b) (Some p) None) []
pushed a b p old new less grown = rw (lt-ltb a b less) grown

pub passed_over : (a b : ℕ) (p : ℕ × ℕ) (old new : List (ℕ × ℕ)) → b ≤ a → new ≡ old → new ≡ old ++ cons_option (cond (ltb a b) (Some p) None) []
passed_over a b p old new more same = search (rules, nat_tests, append-nil)

-- ---- a search

pub not_found : (ps : List (ℕ × ℕ)) (p : ℕ × ℕ) (i : ℕ) → AreRising ps → i ≤ length ps → (IsNonDecreasingBy (λ q. ordering_index (pair_cmp q p)) ps → IsPartitionPoint (λ q. pair_cmp q p ≡ Less) (λ q. pair_cmp q p ≡ Greater) ps i) → ¬ Contains ps p
not_found ps p i rising inside result c =
    let point = result (searchable_from_sorted pair_total (λ (q : ℕ × ℕ). q) ps p (sorted_from_rising ps rising)) in
    let same : pair_cmp (get_or ps c.0 p) p ≡ Equal = ap (λ (q : ℕ × ℕ). pair_cmp q p) c.2 ∙ tied_itself pair_total p in
    elim (cases_lt c.0 i) [
      | inl before ↦ let less = point.0 c.0 p (omega arith) before in absurd (cc)
      | inr later ↦ let more = point.1 c.0 p later c.1 in absurd (cc)
    ]

pub searched_pair : (ps : List (ℕ × ℕ)) (p : ℕ × ℕ) (r : Result ℕ ℕ) (b : Bool) → AreRising ps → IsSearchInRange r (length ps) → IfOk r (HoldsAt (λ q. pair_cmp q p ≡ Equal) ps) → IsBinarySearchResult (λ q. pair_cmp q p) ps r → b ≡ is_ok r → IsTrue b ↔ Contains ps p
searched_pair ps p (Ok i) b rising inside at position is = (λ yes. (i, inside, pair_exact _ p (at p)), λ there. is)
searched_pair ps p (Err i) b rising inside at position is = (λ yes. absurd (cc), λ there. absurd (not_found ps p i rising inside position there))

-- ---- one-way links

pub answered : (links : List Link) (l : Link) (b : Bool) → (IsTrue b ↔ Lists links l.to l.from) → Contains links l → IsTrue (not b) ↔ IsOneWay links l.from l.to
answered links l true back there = (λ yes. absurd (cc), λ one. absurd (one.back (back.0 refl)))
answered links l false back there = (λ yes. record { there = there; back = λ listed. let no = back.1 listed in absurd (cc) }, λ one. refl)

-- the least one stays so where the next isn't before it
still_least : (links seen : List Link) (l f : Link) → IsLeastSeen links seen f → (IsOneWay links l.from l.to → is_before l f ≡ false)
    → IsLeastSeen links (seen ++ l ∷ []) f
still_least links seen l f least after =
    record { one_way = least.one_way; least = All-push (λ m. IsOneWay links m.from m.to → is_before m f ≡ false) seen l least.least after }

-- what no link is that goes both ways
pub answered_more : (links seen : List Link) (l : Link) (o : Option Link) (b : Bool) → b ≡ false → (IsTrue b ↔ IsOneWay links l.from l.to) → IsLeastOrNone links seen o
    → IsLeastOrNone links (seen ++ l ∷ []) o
answered_more links seen l None b nay is least = All-push (λ m. ¬ IsOneWay links m.from m.to) seen l least (iff_false is nay)
answered_more links seen l (Some f) b nay is least = still_least links seen l f least (λ one. absurd (iff_false is nay one))

least_more : (links seen : List Link) (l : Link) → IsOneWay links l.from l.to → All (λ m. IsOneWay links m.from m.to → is_before m l ≡ false) seen
    → IsLeastSeen links (seen ++ l ∷ []) l
least_more links seen l one after = still_least links seen l l (record { one_way = one; least = after }) (λ other. grind (arith, nat_tests))

pub first_more : (links seen : List Link) (l : Link) → IsOneWay links l.from l.to → All (λ m. ¬ IsOneWay links m.from m.to) seen → IsLeastSeen links (seen ++ l ∷ []) l
first_more links seen l one none = least_more links seen l one (λ k d inside other. absurd (none k d inside other))

-- what isn't before one link isn't before one that stands before it
far_before : (m l f : Link) → is_before l f ≡ true → is_before m f ≡ false → is_before m l ≡ false
far_before m l f before far = grind (arith, nat_tests)

pub lesser_more : (links seen : List Link) (l f : Link) → IsOneWay links l.from l.to → IsLeastSeen links seen f → IsLeastSeen links (seen ++ l ∷ []) (cond (is_before l f) l f)
lesser_more links seen l f one least = cond_both (is_before l f) l f (IsLeastSeen links (seen ++ l ∷ []))
    (λ before. least_more links seen l one (λ k d inside other. far_before (get_or seen k d) l f before (least.least k d inside other)))
    (λ after. still_least links seen l f least (λ other. after))

-- ---- both ways

pub mutual_from_equal : (links : List Link) (up down : List (ℕ × ℕ)) → AreCut links up down → up ≡ down → AreMutual links
mutual_from_equal links up down cut same a b listed = elim (cases_order a b) [
  | inl is ↦ subst (λ (x : ℕ × ℕ). Lists links x.0 x.1) (ap (λ (x : ℕ). (x, b)) is ∙ sym (ap (λ (x : ℕ). (b, x)) is)) listed
  | inr (inl less) ↦ ((cut.down_are (a, b)).0 (subst (λ (ps : List (ℕ × ℕ)). Contains ps (a, b)) same ((cut.up_are (a, b)).1 (record { rising = less; listed = listed })))).listed
  | inr (inr more) ↦ ((cut.up_are (b, a)).0 (subst (λ (ps : List (ℕ × ℕ)). Contains ps (b, a)) (sym same) ((cut.down_are (b, a)).1 (record { rising = more; listed = listed })))).listed
]

mutual_from_none : (links : List Link) → All (λ l. ¬ IsOneWay links l.from l.to) links → AreMutual links
mutual_from_none links none a b listed = elim (cases_Bool (list_any (λ l. eqb l.from b && eqb l.to a) links)) [
  | inl is ↦ lists_from_test links b a is
  | inr is ↦
      let one : IsOneWay links a b = record { there = listed; back = λ back. false≢true (sym is ∙ test_from_lists links b a back) } in
      absurd (All-contains (λ l. ¬ IsOneWay links l.from l.to) links (link_of a b) none listed one)
]

order_of : (a b x y : ℕ) → is_before (link_of x y) (link_of a b) ≡ false → (a < x) ⊎ ((a ≡ x) × (b ≤ y))
order_of a b x y after = search (rules, cases_lt, nat_tests)

pub least_from_seen : (links : List Link) (l : Link) → IsLeastSeen links links l → IsLeastOneWay links l.from l.to
least_from_seen links l least = search (rules, order_of, All-contains)

pub pairs_from_cut : (links : List Link) (up down : List (ℕ × ℕ)) → AreCut links up down → ArePairsOf links up
pairs_from_cut links up down cut =
    let listed = All-weaker (Contains up) (IsPairOf links) (λ p c. (cut.up_are p).0 c) up (All-contains_itself up) in
    record { rising = cut.up_rising; listed = listed; all = λ p is. (cut.up_are p).1 is }

pub cut_from_sorted : (links : List Link) (before up after down : List (ℕ × ℕ)) → before ≡ filter_map upward_pair links → AreRising up
    → ((p : ℕ × ℕ) → Contains before p ↔ Contains up p) → after ≡ filter_map downward_pair links → AreRising down → ((p : ℕ × ℕ) → Contains after p ↔ Contains down p)
    → AreCut links up down
cut_from_sorted links before up after down up_is rising same down_is falling also =
    let ups = rw up_is at same in
    let downs = rw down_is at also in
    record {
      up_rising = rising;
      up_are = λ p. (λ c. upward_listed links p ((ups p).1 c), λ is. (ups p).0 (listed_upward links p is));
      down_rising = falling;
      down_are = λ p. (λ c. downward_listed links p ((downs p).1 c), λ is. (downs p).0 (listed_downward links p is));
    }

pub least_or_mutual : (links : List Link) (o : Option Link) → IsLeastOrNone links links o → MatchOption o (AreMutual links) (λ l. IsLeastOneWay links l.from l.to)
least_or_mutual links None none = mutual_from_none links none
least_or_mutual links (Some l) least = least_from_seen links l least

pub pair_decides : (p q : ℕ × ℕ) → Decides (pair_eq p q) (p ≡ q)
pair_decides p q = (pair_eq_is p q, λ same. subst (λ (x : ℕ × ℕ). pair_eq p x ≡ true) same (pair_eq_equiv.refl p))
