-- What is found in the plan that keeps the districts of own parts alone holds of them in the whole plan.
use Rattle.{std.{specs.Prelude.MatchOption, proofs.lemmas.{Bool.{cond-true, cond_both, and_from, lt-ltb}, List.Elements.All-weaker}}, audit_contiguity.specs.Forest.IsForest}
use Rattle.std.proofs.Common.{◌≡◌, ℕ, ◌+◌, ◌*◌, ◌-◌, ◌<◌, ◌≤◌, ◌⊎◌, inl, inr, ⊎_elim, Bool, true, false, List, length, map, get_or, min, take, drop, Option, None, Some, IsTrue, sym, ap, ◌∙◌, subst, refl, arith, rules}
use Rattle.{std.proofs.lemmas.List.{length-map, length-drop, length-take-le, get_or-map, get_or-take, get_or-drop}, audit_contiguity.specs.Lowest.AreAllLowest}
use Rattle.audit_contiguity.specs.{Parts.{is_own, kept, Shown}, claim.{Breaks.{IsApart, IsGap, AreBreaks}, Paths.{IsIn, AreJoined, HoldsTogether}}, declared.breaks.Break.Break}
use Rattle.{audit_contiguity.specs.declared.{breaks.Gap.Gap, lowest.Lowest.Lowest}, desk_model.specs.{claim.Geography.GeographyModel, declared.geography.Pair.Pair}}
use Rattle.audit_contiguity.proofs.Growth.{forest_still}

kept_or_none : (own : List Bool) (d : ℕ) → (kept own d ≡ d) ⊎ (kept own d ≡ 0)
kept_or_none own d = cond_both (is_own own d) d 0 (λ x. (x ≡ d) ⊎ (x ≡ 0)) (λ e. inl refl) (λ e. inr refl)

module _ (own : List Bool) (plan : List ℕ) where
  long : length (map (kept own) plan) ≡ length plan
  long = length-map plan (kept own)

  at : (a : ℕ) → a < length plan → get_or (map (kept own) plan) a 0 ≡ kept own (get_or plan a 0)
  at a less = get_or-map (kept own) plan a 0 0 less

  down : (d a : ℕ) → is_own own d ≡ true → IsIn plan d a → IsIn (map (kept own) plan) d a
  down d a is lies = record { within = omega (arith, long, lies.within); given = at a lies.within ∙ ap (kept own) lies.given ∙ cond-true (is_own own d) d 0 is }

  up : (d a : ℕ) → 1 ≤ d → IsIn (map (kept own) plan) d a → IsIn plan d a
  up d a some lies =
      let inside : a < length plan = omega (arith, long, lies.within) in
      record {
        within = inside;
        given = ⊎_elim (λ (same : kept own (get_or plan a 0) ≡ get_or plan a 0). sym same ∙ sym (at a inside) ∙ lies.given)
            (λ (none : kept own (get_or plan a 0) ≡ 0). absurd (omega (arith, none, at a inside, lies.given, some))) (kept_or_none own (get_or plan a 0));
      }

-- a plan that gives a district the blocks that another gives it
joined_to : (g : GeographyModel) (one other : List ℕ) (d : ℕ) → ((a : ℕ) → IsIn one d a → IsIn other d a) → (a b : ℕ) → AreJoined g.pairs one d a b → AreJoined g.pairs other d a b
joined_to g one other d to a b way = search (rules, All-weaker, to)

apart_to : (g : GeographyModel) (one other : List ℕ) (d : ℕ) → ((a : ℕ) → IsIn one d a → IsIn other d a) → ((a : ℕ) → IsIn other d a → IsIn one d a) → (a b : ℕ) → IsApart g one d a b → IsApart g other d a b
apart_to g one other d to back a b was = record { lies = to b was.lies; apart = λ way. was.apart (joined_to g other one d back a b way) }

-- two plans that give a district the same blocks
module _ (g : GeographyModel) (small plan : List ℕ) (d : ℕ) (up : (a : ℕ) → IsIn small d a → IsIn plan d a) (down : (a : ℕ) → IsIn plan d a → IsIn small d a) where
  together_up : HoldsTogether g.pairs small d → HoldsTogether g.pairs plan d
  together_up was = record {
    some = (was.some.0, up was.some.0 was.some.1);
    joined = λ a b one other. joined_to g small plan d up a b (was.joined a b (down a one) (down b other));
  }

  gap_up : (gap : Gap) → IsGap g small d gap → IsGap g plan d gap
  gap_up gap is = record {
    from = is.from;
    to = is.to;
    from_id = is.from_id;
    to_id = is.to_id;
    least = record { holds = up is.from is.least.holds; least = λ b lies. is.least.least b (down b lies) };
    apart = record { holds = apart_to g small plan d up down is.from is.to is.apart.holds; least = λ b lies. is.apart.least b (apart_to g plan small d down up is.from b lies) };
  }

  told_up : (told : Option Gap) → MatchOption told ((a : ℕ) → ¬ IsIn small d a) (IsGap g small d) → MatchOption told ((a : ℕ) → ¬ IsIn plan d a) (IsGap g plan d)
  told_up None none = λ a lies. none a (down a lies)
  told_up (Some gap) is = gap_up gap is

breaks_up : (g : GeographyModel) (small plan : List ℕ) (first last : ℕ) → ((d a : ℕ) → first ≤ d → d ≤ last → IsIn small d a → IsIn plan d a)
    → ((d a : ℕ) → first ≤ d → d ≤ last → IsIn plan d a → IsIn small d a) → (breaks : List Break) → AreBreaks g small first last breaks → AreBreaks g plan first last breaks
breaks_up g small plan first last up down breaks are = record {
  rising = are.rising;
  broken = λ k b less. let was = are.broken k b less in record {
    from_first = was.from_first;
    to_last = was.to_last;
    breaks = told_up g small plan (get_or breaks k b).district (λ a. up _ a was.from_first was.to_last) (λ a. down _ a was.from_first was.to_last) (get_or breaks k b).gap was.breaks;
  };
  whole = λ d from to not_told. together_up g small plan d (λ a. up d a from to) (λ a. down d a from to) (are.whole d from to not_told);
}

own_part : (own : List Bool) (part count d : ℕ) → IsTrue (get_or own part false) → 16 * part + 1 ≤ d → d ≤ min (16 * part + 16) count → is_own own d ≡ true
own_part own part count d is from to = search (rules, and_from, lt-ltb)

pub own_breaks : (s : Shown) (plan : List ℕ) (part : ℕ) (breaks : List Break) → plan ≡ map (kept s.own) s.plan → IsTrue (get_or s.own part false)
    → AreBreaks s.geography plan (16 * part + 1) (min (16 * part + 16) s.count) breaks → AreBreaks s.geography s.plan (16 * part + 1) (min (16 * part + 16) s.count) breaks
own_breaks s plan part breaks is own are =
    breaks_up s.geography (map (kept s.own) s.plan) s.plan (16 * part + 1) (min (16 * part + 16) s.count) (λ d a from to lies. up s.own s.plan d a (omega arith) lies)
    (λ d a from to lies. down s.own s.plan d a (own_part s.own part s.count d own from to) lies) breaks
    (subst (λ p. AreBreaks s.geography p (16 * part + 1) (min (16 * part + 16) s.count) breaks) is are)

-- the trees of more districts are those of fewer too
pub forest_within : (pairs : List Pair) (plan parents : List ℕ) (low high first last count : ℕ) → low ≤ first → last ≤ high → IsForest pairs plan low high count parents
    → IsForest pairs plan first last count parents
forest_within pairs plan parents low high first last count above below forest = forest_still forest (λ k p less d from to. forest.closed k p less d (omega arith) (omega arith))

-- the lowest roots of more districts are those of fewer too
pub lowest_within : (parents plan : List ℕ) (count low wide first size from taken : ℕ) (lowest : List Lowest) → first ≡ low + from → taken ≡ size → from + size ≤ wide
    → AreAllLowest parents plan count low wide lowest → AreAllLowest parents plan count first size (take taken (drop from lowest))
lowest_within parents plan count low wide first size from taken lowest place same within are = search (rules, length-take-le, length-drop, get_or-take, get_or-drop)
