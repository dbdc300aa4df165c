-- The breaks, district by district.
use Rattle.std.{specs.List.Sorted.IsStrictlyIncreasing, proofs.lemmas.{Bool.cases_lt, List.{map_push, length_push, get_or_push, get_or_append_left, get_or-map, take_all}}}
use Rattle.std.proofs.Common.{◌≡◌, ℕ, ◌+◌, ◌<◌, ◌≤◌, ◌⊎◌, inl, inr, List, [], ◌∷◌, ◌++◌, length, get_or, All, Contains, sym, ap, ◌∙◌, arith, rules}
use Rattle.{std.proofs.lemmas.List.Elements.{All-push, All-map, All-contains, Contains-push, Contains-append_left}, audit_contiguity.specs.Forest.{HasOneRoot, IsForest}}
use Rattle.audit_contiguity.specs.{Lowest.{IsRoot, AreLowest}, claim.Breaks.{IsLeast, IsApart, IsGap, IsBreak, IsBreakWithin, districts_of, AreBreaks}, declared.breaks.Break.Break}
use Rattle.audit_contiguity.specs.{claim.Paths.{AreNeighbours, IsIn, AreJoined, HoldsTogether}, declared.{breaks.Gap.Gap, lowest.Lowest.TheVariants.{Zero, One, Two}}}
use Rattle.desk_model.specs.{claim.Geography.{GeographyModel, id_at}, declared.block.BlockRow.BlockRow}
use Rattle.audit_contiguity.proofs.Walks.{joined_on, joined_back, end_lies, same_joined}

module _ (g : GeographyModel) {plan : List ℕ} {first last : ℕ} {parents : List ℕ} (forest : IsForest g.pairs plan first last (length g.pairs) parents) (d : ℕ) where
  -- the root of a block of the district is one of its roots
  root_there : (a : ℕ) → IsIn plan d a → IsRoot parents plan (length plan) d (forest.root a)
  root_there a lies =
      let there = end_lies (forest.joined a d lies) in
      record { early = there.within; lies = there; own = forest.rooting.own a (rw forest.long lies.within) }

  root_low : (a : ℕ) → IsIn plan d a → forest.root a ≤ a
  root_low a lies = forest.rooting.low a (rw forest.long lies.within)

  own_root : (a : ℕ) → IsRoot parents plan (length plan) d a → forest.root a ≡ a
  own_root a is = forest.rooting.top a (rw forest.long is.early) is.own

  -- blocks of one district from first to last that a path within it joins have one root
  one_root : (a b : ℕ) → first ≤ d → d ≤ last → AreJoined g.pairs plan d a b → forest.root b ≡ forest.root a
  one_root a b from to way = same_joined g.pairs plan d forest.root next way
    where
      closed : All (HasOneRoot forest.root plan first last) g.pairs
      closed = rw (take_all (length g.pairs) g.pairs (omega arith)) at forest.closed

      next : (x y : ℕ) → AreNeighbours g.pairs x y → IsIn plan d x → IsIn plan d y → forest.root x ≡ forest.root y
      next x y (inl has) lies_x lies_y = All-contains (HasOneRoot forest.root plan first last) g.pairs _ closed has d from to lies_x lies_y
      next x y (inr has) lies_x lies_y = sym (All-contains (HasOneRoot forest.root plan first last) g.pairs _ closed has d from to lies_y lies_x)

  pub no_block : AreLowest parents plan (length plan) d Zero → (a : ℕ) → ¬ IsIn plan d a
  no_block none a lies = none (forest.root a) (root_there a lies)

  pub together : (a : ℕ) → AreLowest parents plan (length plan) d (One a) → HoldsTogether g.pairs plan d
  together a one = record { some = (a, one.0.lies); joined = λ x y lies_x lies_y. joined_on (to_a x lies_x) (joined_back (to_a y lies_y)) }
    where
      to_a : (x : ℕ) → IsIn plan d x → AreJoined g.pairs plan d x a
      to_a x lies = rw (one.1 (forest.root x) (root_there x lies)) at (forest.joined x d lies)

  module _ (a b : ℕ) (two : AreLowest parents plan (length plan) d (Two a b)) where
    -- where a root of the district is one of the two lowest or lies above
    where_root : (x : ℕ) → IsIn plan d x → (forest.root x ≡ a) ⊎ (b ≤ forest.root x)
    where_root x lies = two.3 (forest.root x) (root_there x lies)

    -- the lowest root is the district's least block
    least_below : (x : ℕ) → IsIn plan d x → a ≤ x
    least_below x lies = elim (where_root x lies) [ inl same ↦ omega (arith, root_low x lies) | inr more ↦ omega (arith, root_low x lies, two.2) ]

    -- the next is the least block that is apart from it
    two_apart : first ≤ d → d ≤ last → IsLeast (IsApart g plan d a) b
    two_apart from to = record {
      holds = record { lies = two.1.lies; apart = λ way. omega (arith, one_root a b from to way, own_root a two.0, own_root b two.1, two.2) };
      least = λ x is. elim (where_root x is.lies) [
        | inl same ↦ absurd (is.apart (joined_back (rw same at (forest.joined x d is.lies))))
        | inr more ↦ omega (arith, root_low x is.lies)
      ];
    }

    pub gap_there : (gap : Gap) → first ≤ d → d ≤ last → id_at g.blocks a ≡ gap.from → id_at g.blocks b ≡ gap.to → IsGap g plan d gap
    gap_there gap from to from_id to_id =
        record { from = a; to = b; from_id = from_id; to_id = to_id; least = record { holds = two.0.lies; least = least_below }; apart = two_apart from to }

-- the breaks of the first districts
pub record AreTold (g : GeographyModel) (plan : List ℕ) (first last count : ℕ) (breaks : List Break) : Type 0 where
  pub rising : IsStrictlyIncreasing (districts_of breaks)
  pub below : All (λ (b : Break). b.district < first + count) breaks
  pub broken : All (IsBreakWithin g plan first last) breaks
  pub whole : (d : ℕ) → first ≤ d → d < first + count → ¬ Contains (districts_of breaks) d → HoldsTogether g.pairs plan d

pub rising_push : (xs : List ℕ) (y : ℕ) → IsStrictlyIncreasing xs → All (λ x. x < y) xs → IsStrictlyIncreasing (xs ++ y ∷ [])
rising_push xs y rising below k less = search (rules, get_or_append_left, length_push, get_or_push, cases_lt)

module _ {g : GeographyModel} {plan : List ℕ} {first last count : ℕ} {breaks : List Break} (was : AreTold g plan first last count breaks) where
  pub told_break : (b : Break) → b.district ≡ first + count → first + count ≤ last → IsBreak g plan b → AreTold g plan first last (count + 1) (breaks ++ b ∷ [])
  told_break b is within broken = record {
    rising = rw (map_push (λ (b : Break). b.district) breaks b) (rising_push (districts_of breaks) b.district was.rising (rw is (All-map (λ x. x < first + count) (λ (b : Break). b.district) breaks was.below)));
    below = All-push (λ (b : Break). b.district < first + (count + 1)) breaks b (λ k d less. omega (arith, was.below k d less)) (omega (arith, is));
    broken = All-push (IsBreakWithin g plan first last) breaks b was.broken (record { from_first = omega (arith, is); to_last = omega (arith, is); breaks = broken });
    whole = λ d from less not_told. let not_listed = rw (map_push (λ (b : Break). b.district) breaks b) at not_told in elim (cases_lt d (first + count)) [
      | inl before ↦ was.whole d from before (λ has. not_listed (Contains-append_left (districts_of breaks) (b.district ∷ []) d has))
      | inr after ↦ let e : b.district ≡ d = omega (arith, is) in absurd (not_listed (rw (← e) (Contains-push (districts_of breaks) b.district)))
    ];
  }

  pub told_whole : HoldsTogether g.pairs plan (first + count) → AreTold g plan first last (count + 1) breaks
  told_whole holds = record {
    rising = was.rising;
    below = λ k d less. omega (arith, was.below k d less);
    broken = was.broken;
    whole = λ d from less not_told. elim (cases_lt d (first + count)) [
      | inl before ↦ was.whole d from before not_told
      | inr after ↦ let e : first + count ≡ d = omega arith in rw e at holds
    ];
  }

  pub told_all : last < first + count → AreBreaks g plan first last breaks
  told_all all = record { rising = was.rising; broken = was.broken; whole = λ d from to not_told. was.whole d from (omega arith) not_told }

pub id_here : (blocks given : List BlockRow) (i : ℕ) (row : BlockRow) → given ≡ blocks → i < length blocks → id_at blocks i ≡ (get_or given i row).id
id_here blocks given i row same inside = get_or-map (λ (b : BlockRow). b.id) blocks i row 0 inside ∙ ap (λ (xs : List BlockRow). (get_or xs i row).id) (sym same)
