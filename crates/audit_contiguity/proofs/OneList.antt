-- A plan's breaks are one list, and those of districts that follow one another are put together.
use Rattle.std.{specs.{List.Sorted.{IsStrictlyIncreasing, IsStrictlySortedBy}, Ordering.nat_cmp}, proofs.lemmas.{Bool.{cases_eq, cases_lt}, Cmp.ranked, Map.Made.Contains-tail}}
use Rattle.std.proofs.Common.{Less, ◌≡◌, ◌≢◌, ℕ, ◌+◌, ◌-◌, ◌<◌, ◌≤◌, ◌⊎◌, inl, inr, ⊎_elim, Option, None, Some, MatchOption, List, [], ◌∷◌, ◌++◌, length, get_or, Contains, refl, sym, ap, ◌∙◌, subst, arith, rules}
use Rattle.std.proofs.lemmas.{List.{length-map, length-append, map-append, get_or-map, get_or_append_left, get_or-append_right, same_lists}, Map.Views.All-after_first}
use Rattle.std.proofs.lemmas.List.Elements.{All-contains, All-append, All-weaker, Contains-push, Contains-get_or, Contains-append_left, Contains-append_right}
use Rattle.{std.proofs.lemmas.Map.Keys.{sorted_tail, sorted_from_strictly_increasing}, audit_contiguity.specs.{claim.Paths.{IsIn, HoldsTogether}, declared.breaks.Break.Break}}
use Rattle.audit_contiguity.specs.{claim.Breaks.{IsLeast, IsGap, IsBreak, IsBreakWithin, districts_of, AreBreaks}, declared.breaks.Gap.Gap}
use Rattle.desk_model.specs.claim.Geography.{GeographyModel}

later : (x : ℕ) (xs : List ℕ) (z : ℕ) → IsStrictlySortedBy nat_cmp (x ∷ xs) → Contains xs z → x < z
later x xs z sorted has = ranked x z Less (sym (All-contains (λ q. nat_cmp x q ≡ Less) xs z (All-after_first nat_cmp x xs sorted) has))

here : (x : ℕ) (xs : List ℕ) → Contains (x ∷ xs) x
here x xs = Contains-append_left (x ∷ []) xs x (Contains-push [] x)

first_least : (x : ℕ) (xs : List ℕ) (z : ℕ) → IsStrictlySortedBy nat_cmp (x ∷ xs) → Contains (x ∷ xs) z → x ≤ z
first_least x xs z sorted has = ⊎_elim (λ (e : x ≡ z). omega arith) (λ (ne : x ≢ z). let less = later x xs z sorted (Contains-tail x xs z ne has) in omega (arith, less)) (cases_eq x z)

in_tail : (x : ℕ) (xs : List ℕ) (z : ℕ) → x < z → Contains (x ∷ xs) z → Contains xs z
in_tail x xs z less has = Contains-tail x xs z (λ e. omega (arith, e)) has

same_sorted : (xs ys : List ℕ) → IsStrictlySortedBy nat_cmp xs → IsStrictlySortedBy nat_cmp ys → ((z : ℕ) → Contains xs z → Contains ys z) → ((z : ℕ) → Contains ys z → Contains xs z) → xs ≡ ys
same_sorted [] [] one other to back = refl
same_sorted [] (y ∷ ys) one other to back = let none = back y (here y ys) in absurd (omega (arith, none.1))
same_sorted (x ∷ xs) [] one other to back = let none = to x (here x xs) in absurd (omega (arith, none.1))
same_sorted (x ∷ xs) (y ∷ ys) one other to back =
    let low = first_least x xs y one (back y (here y ys)) in
    let high = first_least y ys x other (to x (here x xs)) in
    let e : x ≡ y = omega (arith, low, high) in
    rw e (ap (λ (l : List ℕ). y ∷ l) (same_sorted xs ys (sorted_tail nat_cmp x xs one) (sorted_tail nat_cmp y ys other)
    (λ z has. in_tail y ys z (omega (arith, later x xs z one has)) (to z (Contains-append_right (x ∷ []) xs z has)))
    (λ z has. in_tail x xs z (omega (arith, later y ys z other has)) (back z (Contains-append_right (y ∷ []) ys z has)))))

pub same_rising : (xs ys : List ℕ) → IsStrictlyIncreasing xs → IsStrictlyIncreasing ys → ((z : ℕ) → Contains xs z → Contains ys z) → ((z : ℕ) → Contains ys z → Contains xs z) → xs ≡ ys
same_rising xs ys one other to back = same_sorted xs ys (sorted_from_strictly_increasing xs one) (sorted_from_strictly_increasing ys other) to back

listed_or_not : (xs : List ℕ) (z : ℕ) → Contains xs z ⊎ (Contains xs z → ⊥)
listed_or_not [] z = inr (λ has. omega (arith, has.1))
listed_or_not (x ∷ xs) z = elim (cases_eq x z) [
  | inl same ↦ inl (rw same (here z xs))
  | inr ne ↦ elim (listed_or_not xs z) [ inl has ↦ inl (Contains-append_right (x ∷ []) xs z has) | inr none ↦ inr (λ has. none (Contains-tail x xs z ne has)) ]
]

least_same : (P : ℕ → Type 0) (a b : ℕ) → IsLeast P a → IsLeast P b → a ≡ b
least_same P a b one other = omega (arith, one.least b other.holds, other.least a one.holds)

gap_is : (x y : Gap) → x.from ≡ y.from → x.to ≡ y.to → x ≡ y
gap_is x y from to = ap (λ a. record { from = a; to = x.to }) from ∙ ap (λ b. record { from = y.from; to = b }) to

gap_same : (g : GeographyModel) (plan : List ℕ) (d : ℕ) (x y : Gap) → IsGap g plan d x → IsGap g plan d y → x ≡ y
gap_same g plan d x y one other = search (rules, least_same, gap_is)

told_same : (g : GeographyModel) (plan : List ℕ) (d : ℕ) (x y : Option Gap) → MatchOption x ((a : ℕ) → ¬ IsIn plan d a) (IsGap g plan d) → MatchOption y ((a : ℕ) → ¬ IsIn plan d a) (IsGap g plan d) → x ≡ y
told_same g plan d None None one other = refl
told_same g plan d None (Some y) none gap = absurd (none gap.from gap.least.holds)
told_same g plan d (Some x) None gap none = absurd (none gap.from gap.least.holds)
told_same g plan d (Some x) (Some y) one other = ap Some (gap_same g plan d x y one other)

break_same : (g : GeographyModel) (plan : List ℕ) (x y : Break) → x.district ≡ y.district → IsBreak g plan x → IsBreak g plan y → x ≡ y
break_same g plan x y e one other = search (rules, told_same)

parted : (g : GeographyModel) (plan : List ℕ) (d : ℕ) (gap : Option Gap) → MatchOption gap ((a : ℕ) → ¬ IsIn plan d a) (IsGap g plan d) → HoldsTogether g.pairs plan d → ⊥
parted g plan d None none holds = none holds.some.0 holds.some.1
parted g plan d (Some gap) is holds = is.apart.holds.apart (holds.joined is.from is.to is.least.holds is.apart.holds.lies)

right : (xs ys : List ℕ) (k : ℕ) → length xs ≤ k → get_or (xs ++ ys) k 0 ≡ get_or ys (k - length xs) 0
right xs ys k past = get_or-append_right xs ys (length xs) k 0 refl past

rising_append : (xs ys : List ℕ) (middle : ℕ) → IsStrictlyIncreasing xs → IsStrictlyIncreasing ys → ((k : ℕ) → k < length xs → get_or xs k 0 ≤ middle)
    → ((k : ℕ) → k < length ys → middle < get_or ys k 0) → IsStrictlyIncreasing (xs ++ ys)
rising_append xs ys middle one other low high k less = search (rules, get_or_append_left, right, length-append, cases_lt, low, high)

module _ (g : GeographyModel) (plan : List ℕ) where
  -- the break of a district that is told
  told_at : (first last : ℕ) (breaks : List Break) (d : ℕ) → AreBreaks g plan first last breaks → Contains (districts_of breaks) d → (b : Break) × IsBreakWithin g plan first last b × (b.district ≡ d)
  told_at first last breaks d are has =
      let none : Break = record { district = 0; gap = None } in
      let inside : has.0 < length breaks = rw length-map at has.1 in
      (get_or breaks has.0 none, are.broken has.0 none inside, sym (get_or-map (λ (b : Break). b.district) breaks has.0 none d inside) ∙ has.2)

  told_too : (first last : ℕ) (one other : List Break) → AreBreaks g plan first last one → AreBreaks g plan first last other → (d : ℕ) → Contains (districts_of one) d → Contains (districts_of other) d
  told_too first last one other are too d has =
      let b = told_at first last one d are has in elim (listed_or_not (districts_of other) d) [
        | inl there ↦ there
        | inr none ↦
            absurd (parted g plan b.0.district b.0.gap b.1.breaks
            (subst (λ e. HoldsTogether g.pairs plan e) (sym b.2) (too.whole d (omega (arith, b.1.from_first, b.2)) (omega (arith, b.1.to_last, b.2)) none)))
      ]

  pub one_list : (first last : ℕ) (one other : List Break) → AreBreaks g plan first last one → AreBreaks g plan first last other → one ≡ other
  one_list first last one other are too = same_lists one other long
      (λ k b less.
      let less_too : k < length other = omega (arith, long) in
      break_same g plan (get_or one k b) (get_or other k b)
      (sym (get_or-map (λ (b : Break). b.district) one k b 0 less) ∙ ap (λ (ds : List ℕ). get_or ds k 0) districts ∙ get_or-map (λ (b : Break). b.district) other k b 0 less_too)
      (are.broken k b less).breaks (too.broken k b less_too).breaks)
    where
      districts : districts_of one ≡ districts_of other
      districts = same_rising (districts_of one) (districts_of other) are.rising too.rising (told_too first last one other are too) (told_too first last other one too are)

      long : length one ≡ length other
      long = sym (length-map one (λ (b : Break). b.district)) ∙ ap length districts ∙ length-map other (λ (b : Break). b.district)

  within_more : (first last low high : ℕ) → low ≤ first → last ≤ high → (b : Break) → IsBreakWithin g plan first last b → IsBreakWithin g plan low high b
  within_more first last low high less more b is = record { from_first = omega (arith, is.from_first); to_last = omega (arith, is.to_last); breaks = is.breaks }

  -- a district that is told lies within the bounds
  told_within : (first last : ℕ) (breaks : List Break) (k : ℕ) → AreBreaks g plan first last breaks → k < length (districts_of breaks)
      → (first ≤ get_or (districts_of breaks) k 0) × (get_or (districts_of breaks) k 0 ≤ last)
  told_within first last breaks k are less =
      let b = told_at first last breaks _ are (Contains-get_or (districts_of breaks) k 0 less) in (omega (arith, b.1.from_first, b.2), omega (arith, b.1.to_last, b.2))

  pub breaks_put_together : (first middle last : ℕ) (one other : List Break) → first ≤ middle + 1 → middle ≤ last → AreBreaks g plan first middle one
      → AreBreaks g plan (middle + 1) last other → AreBreaks g plan first last (one ++ other)
  breaks_put_together first middle last one other from to are too = record {
    rising = rw (map-append (λ (b : Break). b.district) one other)
        (rising_append (districts_of one) (districts_of other) middle are.rising too.rising
        (λ k less. (told_within first middle one k are less).1)
        (λ k less. let low = (told_within (middle + 1) last other k too less).0 in omega (arith, low)));
    broken = search (rules, All-append, All-weaker, within_more);
    whole = λ d low high not_told. let not_listed = rw (map-append (λ (b : Break). b.district) one other) at not_told in elim (cases_lt d (middle + 1)) [
      | inl before ↦ are.whole d low (omega arith) (λ has. not_listed (Contains-append_left (districts_of one) (districts_of other) d has))
      | inr after ↦ too.whole d after high (λ has. not_listed (Contains-append_right (districts_of one) (districts_of other) d has))
    ];
  }
