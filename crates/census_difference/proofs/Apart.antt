-- Where two lists that begin alike differ.
use Rattle.std.{specs.Prelude.{min, IsTrue, Option, Some, None, ◌≢◌}, proofs.lemmas.{List.{take-append-drop, drop_more, drop_all, drop_at}, Option.none-some}}
use Rattle.std.proofs.Common.{◌≡◌, ◌+◌, ◌<◌, ◌≤◌, ℕ, List, [], ◌∷◌, ◌++◌, length, get_or, take, drop, sym, ap, subst, ◌∙◌, refl, inl, inr, arith}
use Rattle.census_difference.specs.claim.Differences.{BlockDiffers, DiffersAfter, DiffersFrom, FollowsWith, IsExtraBlock, IsExtraPair, IsFirstOf, IsMissingBlock, IsMissingPair, PairDiffers}
use Rattle.census_difference.specs.declared.difference.Difference.{Difference, TheVariants.{ExtraBlock, MissingBlock, OtherCity, OtherPopulation, ExtraPair, MissingPair}}
use Rattle.desk_model.specs.{claim.{Geography.GeographyModel, GeographyModels.is_before}, declared.{block.BlockRow.BlockRow, geography.Pair.Pair}}

module _ {A : Type 0} (Both : A → A → Type 0) (Extra Missing : A → Type 0) where
  apart_at : (stored said : List A) (k : ℕ) → take k stored ≡ take k said → FollowsWith Both Extra Missing (drop k stored) (drop k said) → DiffersAfter Both Extra Missing stored said
  apart_at stored said k same differ = record {
    front = take k stored;
    here = drop k stored;
    there = drop k said;
    stored_is = sym (take-append-drop k stored);
    said_is = sym (take-append-drop k said) ∙ ap (λ xs. xs ++ drop k said) (sym same);
    differ = differ;
  }

  -- at a place that both have
  pub both_differ : (stored said : List A) (k : ℕ) (a b c d : A) → k < length stored → k < length said → take k stored ≡ take k said → a ≡ get_or stored k c → b ≡ get_or said k d → Both a b → DiffersAfter Both Extra Missing stored said
  both_differ stored said k a b c d in_stored in_said same a_is b_is differ =
      let first : drop k stored ≡ a ∷ drop (k + 1) stored = drop_more stored k c in_stored ∙ ap (λ x. x ∷ drop (k + 1) stored) (sym a_is) in
      let then : drop k said ≡ b ∷ drop (k + 1) said = drop_more said k d in_said ∙ ap (λ x. x ∷ drop (k + 1) said) (sym b_is) in
      apart_at stored said k same (subst (λ xs. FollowsWith Both Extra Missing xs (drop k said)) (sym first) (subst (λ ys. FollowsWith Both Extra Missing (a ∷ drop (k + 1) stored) ys) (sym then) differ))

  -- where the one or the other has ended
  pub missing_differs : (stored said : List A) (n k : ℕ) (b d : A) → n ≡ min (length stored) (length said) → n ≤ k → k ≤ n → n < length said → take k stored ≡ take k said → b ≡ get_or said n d → Missing b → DiffersAfter Both Extra Missing stored said
  missing_differs stored said n k b d shorter more less there same b_is differ =
      let at : k ≡ n = omega arith in
      let first : drop n stored ≡ [] = drop_all n stored (omega arith) in
      let then : drop n said ≡ b ∷ drop (n + 1) said = drop_more said n d there ∙ ap (λ x. x ∷ drop (n + 1) said) (sym b_is) in
      apart_at stored said n (subst (λ (i : ℕ). take i stored ≡ take i said) at same) (subst (λ xs. FollowsWith Both Extra Missing xs (drop n said)) (sym first) (subst (λ ys. FollowsWith Both Extra Missing [] ys) (sym then) differ))

  pub extra_differs : (stored said : List A) (n k : ℕ) (a c : A) → n ≤ k → k ≤ n → n < length stored → length said ≤ n → take k stored ≡ take k said → a ≡ get_or stored n c → Extra a → DiffersAfter Both Extra Missing stored said
  extra_differs stored said n k a c more less there ended same a_is differ =
      let at : k ≡ n = omega arith in
      let first : drop n stored ≡ a ∷ drop (n + 1) stored = drop_more stored n c there ∙ ap (λ x. x ∷ drop (n + 1) stored) (sym a_is) in
      let then : drop n said ≡ [] = drop_all n said ended in
      apart_at stored said n (subst (λ (i : ℕ). take i stored ≡ take i said) at same) (subst (λ xs. FollowsWith Both Extra Missing xs (drop n said)) (sym first) (subst (λ ys. FollowsWith Both Extra Missing (a ∷ drop (n + 1) stored) ys) (sym then) differ))

  -- ---- a list differs from itself in nothing
  none_follows : ((a : A) → Both a a → ⊥) → (xs : List A) → FollowsWith Both Extra Missing xs xs → ⊥
  none_follows never [] follows = follows
  none_follows never (a ∷ rest) follows = never a follows

  pub none_apart : ((a : A) → Both a a → ⊥) → (xs : List A) → DiffersAfter Both Extra Missing xs xs → ⊥
  none_apart never xs apart =
      let front = apart.front in
      let here : drop (length front) xs ≡ apart.here = ap (λ ys. drop (length front) ys) apart.stored_is ∙ drop_at front apart.here (length front) refl in
      let there : drop (length front) xs ≡ apart.there = ap (λ ys. drop (length front) ys) apart.said_is ∙ drop_at front apart.there (length front) refl in
      none_follows never apart.here (subst (λ ys. FollowsWith Both Extra Missing apart.here ys) (sym there ∙ here) apart.differ)

block_is_itself : (d : Difference) (a : BlockRow) → BlockDiffers d a a → ⊥
block_is_itself (ExtraBlock id) a is = omega (arith, is.1)
block_is_itself (MissingBlock id) a is = omega (arith, is.1)
block_is_itself (OtherCity id) a is = is.2 refl
block_is_itself (OtherPopulation id) a is = is.3 refl
block_is_itself _ a is = is

pair_is_itself : (p : Pair) → IsTrue (is_before p p) → ⊥
pair_is_itself p is = grind arith

pairs_are_same : (blocks : List BlockRow) (d : Difference) (p : Pair) → PairDiffers blocks d p p → ⊥
pairs_are_same blocks (ExtraPair one other) p is = pair_is_itself p is.1
pairs_are_same blocks (MissingPair one other) p is = pair_is_itself p is.1
pairs_are_same blocks _ p is = is

no_first : (g : GeographyModel) (d : Difference) → IsFirstOf g g d → ⊥
no_first g d (inl blocks) = none_apart (BlockDiffers d) (IsExtraBlock d) (IsMissingBlock d) (block_is_itself d) g.blocks blocks
no_first g d (inr pairs) = none_apart (PairDiffers g.blocks d) (IsExtraPair g.blocks d) (IsMissingPair g.blocks d) (pairs_are_same g.blocks d) g.pairs pairs.1

pub is_another : (stored : Option GeographyModel) (said : GeographyModel) (d : Difference) → DiffersFrom stored said (Some d) → stored ≢ Some said
is_another None said d is = λ same. none-some said same
is_another (Some g) said d is = λ same. no_first said d (subst (λ (h : GeographyModel). IsFirstOf h said d) (let one : g ≡ said = cc in one) is)
