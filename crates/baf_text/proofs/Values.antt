-- The values that are listed so far.
use Rattle.std.{specs.List.{list_any, Sorted.IsStrictlyIncreasing}, proofs.lemmas.{Bool.{ne_eqb, eq-eqb, cond-true, cond-false, cases_Bool, cases_eq, cases_order}, Simd.map-map}}
use Rattle.std.proofs.Common.{inl, inr, ◌≡◌, ◌≢◌, ℕ, ◌<◌, true, false, cond, eqb, List, [], ◌∷◌, ◌++◌, map, length, get_or, set, refl, sym, ◌∙◌, ap, Contains, Option, Some, None, Err, IsOkAnd, is_some, ⊎_elim, rules}
use Rattle.std.proofs.lemmas.List.{get_or-map, get_or_default, get_or-set_same, get_or-set_other, length-set, length-map, ext_get_or, Folds.{list_any_none, list_any_at}}
use Rattle.{std.proofs.lemmas.Map.Keys.{sorted_from_strictly_increasing, below_from_sorted}, baf_text.specs.Listed.listed_of, desk_model.specs.declared.block.BlockRow.BlockRow}
use Rattle.desk_model.specs.{claim.{Baf.{Values, value_at, in_range, line_read}, Geography.{GeographyModel, ids, id_at}}, declared.reply.BodyFault.TheVariants.UnknownBlock}

pub value_at-push_same : (values : Values) (id d : ℕ) → value_at values id ≡ None → value_at (values ++ (id, d) ∷ []) id ≡ Some d
value_at-push_same [] id d none = cond-true (eqb id id) (Some d) None (eq-eqb id id refl)
value_at-push_same (e ∷ more) id d none = elim (cases_Bool (eqb e.0 id)) [
  | inl here ↦ let some = rw here at none in cc
  | inr past ↦ rw past (value_at-push_same more id d (rw past at none))
]

pub value_at-push_other : (values : Values) (id d other : ℕ) → id ≢ other → value_at (values ++ (id, d) ∷ []) other ≡ value_at values other
value_at-push_other [] id d other differ = cond-false (eqb id other) (Some d) None (ne_eqb id other differ)
value_at-push_other (e ∷ more) id d other differ = ap (λ v. cond (eqb e.0 other) (Some e.1) v) (value_at-push_other more id d other differ)

rises : (xs : List ℕ) → IsStrictlyIncreasing xs → (i j : ℕ) → i < j → j < length xs → get_or xs i 0 < get_or xs j 0
rises xs rising i j less within = below_from_sorted xs i j 0 (sorted_from_strictly_increasing xs rising) less within

-- blocks at two places differ
pub differ_at : (xs : List ℕ) → IsStrictlyIncreasing xs → (i j : ℕ) → i < length xs → j < length xs → i ≢ j → get_or xs i 0 ≢ get_or xs j 0
differ_at xs rising i j inside within differ same = search (rules, rises, cases_order)

-- the list with one block more
pub listed_more : (xs : List ℕ) (values : Values) (place d : ℕ) → IsStrictlyIncreasing xs → place < length xs → get_or (map (value_at values) xs) place None ≡ None
    → set (map (value_at values) xs) place (Some d) ≡ map (value_at (values ++ (get_or xs place 0, d) ∷ [])) xs
listed_more xs values place d rising within none =
    ext_get_or None _ _ (length-set (map (value_at values) xs) place (Some d) ∙ length-map xs _ ∙ sym (length-map xs _))
    (λ i inside. at i (rw (length-set, length-map) at inside))
  where
    here : value_at values (get_or xs place 0) ≡ None
    here = sym (get_or-map (value_at values) xs place 0 None within) ∙ none

    new : Values
    new = values ++ (get_or xs place 0, d) ∷ []

    at : (i : ℕ) → i < length xs → get_or (set (map (value_at values) xs) place (Some d)) i None ≡ get_or (map (value_at new) xs) i None
    at i inside = ⊎_elim
        (λ (e : i ≡ place). rw e (get_or-set_same (map (value_at values) xs) place (Some d) None (rw length-map within)
        ∙ sym (get_or-map (value_at new) xs place 0 None within ∙ value_at-push_same values (get_or xs place 0) d here)))
        (λ (ne : i ≢ place). get_or-set_other (map (value_at values) xs) place i (Some d) None ne ∙ get_or-map (value_at values) xs i 0 None inside
        ∙ sym (search (rules, get_or-map (value_at new) xs i 0 None inside, value_at-push_other, get_or xs place 0, differ_at)))
        (cases_eq i place)

-- at first nothing is listed
pub listed_none : (g : GeographyModel) → map (λ _. None) g.blocks ≡ listed_of g []
listed_none g = sym (map-map (value_at []) (λ (b : BlockRow). b.id) g.blocks)

pub line_unknown : (g : GeographyModel) (n : ℕ) (so_far : Values) (e : ℕ × Option ℕ) → ¬ Contains (ids g) e.0 → line_read g n so_far (Some e) ≡ Err UnknownBlock
line_unknown g n so_far e missing = rw unlisted refl
  where
    unlisted : list_any (λ x. eqb x e.0) (ids g) ≡ false
    unlisted = list_any_none (λ x. eqb x e.0) (ids g) (λ k d inside. ne_eqb (get_or (ids g) k d) e.0 (λ same. missing (k, inside, get_or_default (ids g) k e.0 d inside ∙ same)))

-- what the line's block has in the list
listed_at : (g : GeographyModel) (so_far : Values) (listed : List (Option ℕ)) (place id : ℕ) → place < length g.blocks → id_at g.blocks place ≡ id → listed ≡ listed_of g so_far
    → get_or listed place None ≡ value_at so_far id
listed_at g so_far listed place id within is lists = search (rules, get_or-map, length-map)

known : (g : GeographyModel) (place id : ℕ) → place < length g.blocks → id_at g.blocks place ≡ id → list_any (λ x. eqb x id) (ids g) ≡ true
known g place id within is = list_any_at (λ x. eqb x id) (ids g) place 0 (rw length-map within) (eq-eqb (get_or (ids g) place 0) id is)

nothing : (o : Option ℕ) → is_some o ≡ false → o ≡ None
nothing None is = refl
nothing (Some d) is = cc

pub line_entered : (g : GeographyModel) (n : ℕ) (so_far : Values) (listed : List (Option ℕ)) (place : ℕ) (e : ℕ × Option ℕ) (d : ℕ) → IsStrictlyIncreasing (ids g)
    → place < length g.blocks → id_at g.blocks place ≡ e.0 → listed ≡ listed_of g so_far → is_some (get_or listed place None) ≡ false → in_range n e.1 ≡ Some d
    → IsOkAnd (line_read g n so_far (Some e)) (λ values. set listed place (Some d) ≡ listed_of g values)
line_entered g n so_far listed place e d rising within is lists none in' =
    rw (known g place e.0 within is, ← listed_at g so_far listed place e.0 within is lists, none, in', lists, ← is)
    (listed_more (ids g) so_far place d rising (rw length-map within) (nothing _ (rw lists at none)))
