-- Pairs of places in their order.
use Rattle.std.specs.{Cmp.{IsTotalOrder, IsEquivalence}, List.{dedup, Sorted.{IsSorted, IsStrictlySortedBy, IsStrictlyIncreasing}}, declared.cmp.Ordering.Ordering}
use Rattle.std.{specs.{Ordering.{nat_cmp, ordering_then, eq_by_cmp, is_eq}, declared.cmp.Ordering.TheVariants.{Less, Equal}}, proofs.lemmas.Bool.{lt-ltb, cases_lt}}
use Rattle.std.proofs.Common.{rules, ◌≡◌, ℕ, zero, suc, ◌≤◌, ◌+◌, ◌<◌, ◌⊎◌, inl, inr, Bool, true, ◌↔◌, IsTrue, ◌&&◌, eqb, List, [], ◌∷◌, ◌++◌, length, get_or, take, Contains, refl, sym, ap, subst, ◌∙◌, arith, ⊎_elim}
use Rattle.std.proofs.lemmas.{Cmp.{nat_cmp_total, nat_eq_equiv, on_total, then_total, on_equiv, and_equiv, ranked}, List.{take_more, take_all, get_or_default}}
use Rattle.std.proofs.lemmas.List.{Elements.{All-from_recursion, Contains-append_left, Contains-append_right, Contains-push_cases}, Kept.IsStrictlySortedBy-dedup}
use Rattle.{std.proofs.lemmas.Map.{Lookups.CmpEqualImpliesEq, Views.tells_apart}, desk_model.specs.{claim.Geography.{id_at, ids_of}, declared.block.BlockRow.BlockRow}}
use Rattle.desk_model.specs.{claim.GeographyModels.{AreBlocks, IsGeographyModel, IsPair, AreRising, AreTold, IsTold, is_before, pair_ids, turned}, declared.geography.Pair.Pair}
use Rattle.desk_model.proofs.Places.{rises}

abbrev pub pair_cmp : Pair → Pair → Ordering
pair_cmp p q = ordering_then (nat_cmp p.first q.first) (nat_cmp p.second q.second)

abbrev pub pair_eq : Pair → Pair → Bool
pair_eq p q = eqb p.first q.first && eqb p.second q.second

pub pair_total : IsTotalOrder pair_cmp
pair_total = then_total (on_total (λ (p : Pair). p.first) nat_cmp_total) (on_total (λ (p : Pair). p.second) nat_cmp_total)

pub both_equal : (o q : Ordering) → (is_eq o && is_eq q) ≡ is_eq (ordering_then o q)
both_equal o q = search arith

pub pair_ties : (p q : Pair) → pair_eq p q ≡ eq_by_cmp pair_cmp p q
pair_ties p q = search (rules, both_equal)

before_by : (p q : Pair) (o r : Ordering) → o ≡ nat_cmp p.first q.first → r ≡ nat_cmp p.second q.second → ordering_then o r ≡ Less → IsTrue (is_before p q)
before_by p q Less r is also less = rw (lt-ltb p.first q.first (ranked p.first q.first Less is)) refl
before_by p q _ r is also less = search (rules, lt-ltb)

pub rising_from_sorted : (ps : List Pair) → IsStrictlySortedBy pair_cmp ps → AreRising ps
unfolding IsStrictlySortedBy
rising_from_sorted (p ∷ q ∷ ps) sorted zero d inside = before_by p q _ _ refl refl (All-from_recursion (λ r. pair_cmp p r ≡ Less) (q ∷ ps) sorted.0 0 d (omega arith))
rising_from_sorted (p ∷ q ∷ ps) sorted (suc k) d inside = let e : suc k + 1 ≡ suc (k + 1) = omega arith in rw e (rising_from_sorted (q ∷ ps) sorted.1 k d (omega arith))
rising_from_sorted _ sorted k d inside = absurd (omega arith)

pub deduped_rising : (ps : List Pair) → IsSorted pair_cmp ps → AreRising (dedup pair_eq ps)
deduped_rising ps sorted = rising_from_sorted (dedup pair_eq ps) (IsStrictlySortedBy-dedup pair_total pair_ties ps sorted)

pub pair_eq_equiv : IsEquivalence pair_eq
pair_eq_equiv = and_equiv (on_equiv (λ (p : Pair). p.first) nat_eq_equiv) (on_equiv (λ (p : Pair). p.second) nat_eq_equiv)

pub pair_exact : CmpEqualImpliesEq pair_cmp
pair_exact p q same = by_parts p q (nat_cmp p.first q.first) (nat_cmp p.second q.second) refl refl same
  where
    by_parts : (p q : Pair) (o r : Ordering) → o ≡ nat_cmp p.first q.first → r ≡ nat_cmp p.second q.second → ordering_then o r ≡ Equal → p ≡ q
    by_parts p q Equal r is also same = λ i. record { first = ranked p.first q.first Equal is i; second = ranked p.second q.second Equal (sym same ∙ also) i }
    by_parts p q _ r is also same = absurd (cc)

pub pair_eq_is : (p q : Pair) → pair_eq p q ≡ true → p ≡ q
pair_eq_is p q same = tells_apart pair_exact p q (sym (pair_ties p q) ∙ same)

pub same_pair : (p q : Pair) → p.first ≡ q.first → p.second ≡ q.second → p ≡ q
same_pair p q first second = λ i. record { first = first i; second = second i }

-- ---- pairs told by numbers

module _ (blocks : List BlockRow) (rising : IsStrictlyIncreasing (ids_of blocks)) where
  one_place : (i j : ℕ) → i < length blocks → j < length blocks → id_at blocks i ≡ id_at blocks j → i ≡ j
  one_place i j first second same = search (rules, rises, cases_lt)

  same_way : (p q : Pair) → IsPair (length blocks) p → IsPair (length blocks) q → pair_ids blocks p ≡ pair_ids blocks q → p ≡ q
  same_way p q one other same = search (rules, same_pair, one_place)

  other_way : (p q : Pair) → IsPair (length blocks) p → IsPair (length blocks) q → pair_ids blocks p ≡ turned (pair_ids blocks q) → ⊥
  other_way p q one other same = search (rules, one_place)

  is_it : (p q : Pair) (t : ℕ × ℕ) → IsPair (length blocks) p → IsPair (length blocks) q → (t ≡ pair_ids blocks p) ⊎ (t ≡ turned (pair_ids blocks p))
      → (t ≡ pair_ids blocks q) ⊎ (t ≡ turned (pair_ids blocks q)) → p ≡ q
  is_it p q t one other (inl a) (inl b) = same_way p q one other (sym a ∙ b)
  is_it p q t one other (inl a) (inr b) = absurd (other_way p q one other (sym a ∙ b))
  is_it p q t one other (inr a) (inl b) = absurd (other_way p q one other (ap turned (sym a ∙ b)))
  is_it p q t one other (inr a) (inr b) = same_way p q one other (ap turned (sym a ∙ b))

  told_before : (told : List (ℕ × ℕ)) (t : ℕ × ℕ) (p : Pair) → IsTold blocks (told ++ t ∷ []) p → IsTold blocks told p ⊎ ((t ≡ pair_ids blocks p) ⊎ (t ≡ turned (pair_ids blocks p)))
  told_before told t p (inl there) = ⊎_elim (λ old. inl (inl old)) (λ is. inr (inl is)) (Contains-push_cases told t (pair_ids blocks p) there)
  told_before told t p (inr there) = ⊎_elim (λ old. inl (inr old)) (λ is. inr (inr is)) (Contains-push_cases told t (turned (pair_ids blocks p)) there)

  -- one more pair
  pub told_push : (told : List (ℕ × ℕ)) (t : ℕ × ℕ) (pairs : List Pair) (q : Pair) → AreTold blocks told pairs → IsPair (length blocks) q
      → (t ≡ pair_ids blocks q) ⊎ (t ≡ turned (pair_ids blocks q)) → AreTold blocks (told ++ t ∷ []) (pairs ++ q ∷ [])
  told_push told t pairs q was valid is p = (forth, back)
    where
      here : Contains (told ++ t ∷ []) t
      here = Contains-append_right told (t ∷ []) t (0, omega arith, refl)

      forth : Contains (pairs ++ q ∷ []) p → IsPair (length blocks) p × IsTold blocks (told ++ t ∷ []) p
      forth there = ⊎_elim
          (λ old. let facts = (was p).0 old in (facts.0, search (arith, Contains-append_left, facts.1)))
          (λ last. subst (λ (x : Pair). IsPair (length blocks) x × IsTold blocks (told ++ t ∷ []) x) last (valid, search (arith, here, is)))
          (Contains-push_cases pairs q p there)

      back : IsPair (length blocks) p × IsTold blocks (told ++ t ∷ []) p → Contains (pairs ++ q ∷ []) p
      back facts = ⊎_elim
          (λ old. Contains-append_left pairs (q ∷ []) p ((was p).1 (facts.0, old)))
          (λ now. Contains-append_right pairs (q ∷ []) p (0, omega arith, is_it q p t valid facts.0 is now))
          (told_before told t p facts.1)

  pub told_next : (told : List (ℕ × ℕ)) (i : ℕ) (t : ℕ × ℕ) (pairs new : List Pair) (q : Pair) → i < length told → t ≡ get_or told i t → AreTold blocks (take i told) pairs
      → IsPair (length blocks) q → (t ≡ pair_ids blocks q) ⊎ (t ≡ turned (pair_ids blocks q)) → new ≡ pairs ++ q ∷ [] → AreTold blocks (take (i + 1) told) new
  told_next told i t pairs new q within is was valid by pushed =
      let more : take (i + 1) told ≡ take i told ++ t ∷ [] = take_more told i t within ∙ ap (λ (x : ℕ × ℕ). take i told ++ x ∷ []) (sym is) in
      subst (λ (ps : List Pair). AreTold blocks (take (i + 1) told) ps) (sym pushed)
      (subst (λ (ts : List (ℕ × ℕ)). AreTold blocks ts (pairs ++ q ∷ [])) (sym more) (told_push (take i told) t pairs q was valid by))

  pub told_all : (told : List (ℕ × ℕ)) (i : ℕ) (pairs : List Pair) → length told ≤ i → AreTold blocks (take i told) pairs → AreTold blocks told pairs
  told_all told i pairs end was = subst (λ (ts : List (ℕ × ℕ)). AreTold blocks ts pairs) (take_all i told end) was

-- ---- in their order

pub told_sorted : (blocks : List BlockRow) (told : List (ℕ × ℕ)) (old new : List Pair) → AreTold blocks told old → ((p : Pair) → Contains old p ↔ Contains new p) → AreTold blocks told new
told_sorted blocks told old new was kept p = (λ there. (was p).0 ((kept p).1 there), λ facts. (kept p).0 ((was p).1 facts))

pub geography_made : (blocks : List BlockRow) (told : List (ℕ × ℕ)) (pairs : List Pair) → AreBlocks blocks → AreTold blocks told pairs
    → AreRising pairs → IsGeographyModel (record { blocks = blocks; pairs = pairs })
geography_made blocks told pairs valid was rising =
    record { blocks = valid; pairs = λ k d inside. ((was (get_or pairs k d)).0 (k, inside, get_or_default pairs k (get_or pairs k d) d inside)).0; rising = rising }
