-- Blocks side by side: where two of one county differ, and where all agree.
use Rattle.std.{specs.{List.Any, Prelude.{is_some, not}}, proofs.{Math.Bool.beq, lemmas.{Bool.cases_lt, Grind.get_or_default_zero, List.{get_or-map, length-map}}}}
use Rattle.std.proofs.Common.{rules, ◌≡◌, ◌≢◌, ℕ, zero, suc, ◌+◌, ◌-◌, ◌<◌, ◌≤◌, Bool, true, false, List, [], length, get_or, Option, Some, None, IsSome, arith, refl, ap, sym, ◌∙◌, ◌⊎◌, inl, inr, ⊎_elim}
use Rattle.{baf_text.specs.Listed.listed_of, desk_model.specs.{Counties.{IsInPart, LeastCountyIsTold}, claim.{Baf.{Values, value_at}, Block.county_of, GeographyModels.AreBlocks}}}
use Rattle.desk_model.{specs.{claim.{Geography.{GeographyModel, ids, id_at}, Step.partly_listed}, declared.block.BlockRow.BlockRow}, proofs.Parts.climbs as counties_climb}
use Rattle.desk_store_catalogue.proofs.Overlays.{before}

-- the county of the block at a place
abbrev pub county_at : List BlockRow → ℕ → ℕ
county_at blocks place = county_of (id_at blocks place)

abbrev pub is_listed_at : List (Option ℕ) → ℕ → Bool
is_listed_at listed place = is_some (get_or listed place None)

-- of the blocks before a place, those of one county that stand side by side are both listed or both not
abbrev pub Agree : List BlockRow → List (Option ℕ) → ℕ → Type 0
Agree blocks listed end = (k : ℕ) → k + 1 < end → county_at blocks k ≡ county_at blocks (k + 1) → is_listed_at listed k ≡ is_listed_at listed (k + 1)

-- where nothing is listed all agree
-- nothing is listed before the first place, nor from the second one on
abbrev pub IsSpan : ℕ × ℕ → List (Option ℕ) → Type 0
IsSpan span listed = (k : ℕ) → (k < span.0) ⊎ (span.1 ≤ k) → get_or listed k None ≡ None

pub span_starts : (blocks : List BlockRow) (listed : List (Option ℕ)) (span : ℕ × ℕ) (place : ℕ) → IsSpan span listed → (place ≤ span.0) ⊎ (place ≤ 1) → Agree blocks listed place
span_starts blocks listed span place none (inl low) = λ k inside _. search rules
span_starts blocks listed span place none (inr low) = λ k inside _. absurd (omega (arith, inside, low))

pub span_ends : (blocks : List BlockRow) (listed : List (Option ℕ)) (span : ℕ × ℕ) (place : ℕ) → IsSpan span listed → Agree blocks listed place → (length blocks ≤ place) ⊎ (span.1 < place)
    → Agree blocks listed (length blocks)
span_ends blocks listed span place none agree (inl past) = λ k inside. agree k (omega (arith, inside, past))
span_ends blocks listed span place none agree (inr past) = λ k inside same. search (rules, before, cases_lt)

module _ (blocks : List BlockRow) (listed : List (Option ℕ)) (valid : AreBlocks blocks) where
  -- counties rise with the blocks
  climbs : (i j : ℕ) → i ≤ j → j < length blocks → county_at blocks i ≤ county_at blocks j
  climbs = counties_climb (record { blocks = blocks; pairs = [] }) [] valid

  -- blocks of one county agree, however far apart
  spread : (end : ℕ) → Agree blocks listed end → end ≤ length blocks → (d i : ℕ) → i + d < end → county_at blocks i ≡ county_at blocks (i + d)
      → is_listed_at listed i ≡ is_listed_at listed (i + d)
  spread end agree within zero i inside same = let e : i + 0 ≡ i = omega arith in rw e refl
  spread end agree within (suc d) i inside same =
      let e : i + suc d ≡ i + d + 1 = omega arith in
      let end_same : county_at blocks i ≡ county_at blocks (i + d + 1) = rw e at same in
      let low : county_at blocks i ≤ county_at blocks (i + d) = climbs i (i + d) (omega arith) (omega (arith, inside, within)) in
      let high : county_at blocks (i + d) ≤ county_at blocks (i + d + 1) = climbs (i + d) (i + d + 1) (omega arith) (omega (arith, inside, within)) in
      rw e (spread end agree within d i (omega (arith, inside)) (omega (arith, low, high, end_same))
      ∙ agree (i + d) (omega (arith, inside)) (omega (arith, low, high, end_same)))

  in_order : (end : ℕ) → Agree blocks listed end → end ≤ length blocks → (i j : ℕ) → i ≤ j → j < end → county_at blocks i ≡ county_at blocks j
      → is_listed_at listed i ≡ is_listed_at listed j
  in_order end agree within i j less inside same =
      let d = j - i in
      let e : j ≡ i + d = omega (arith, less) in
      rw e (spread end agree within d i (rw e at inside) (rw e at same))

  together : (end : ℕ) → Agree blocks listed end → end ≤ length blocks → (i j : ℕ) → i < end → j < end → county_at blocks i ≡ county_at blocks j
      → is_listed_at listed i ≡ is_listed_at listed j
  together end agree within i j first second same = ⊎_elim
      (λ less. in_order end agree within i j (omega (arith, less)) second same)
      (λ (over : j ≤ i). sym (in_order end agree within j i over first (sym same)))
      (cases_lt i j)

-- what is listed of a state's blocks
module _ (g : GeographyModel) (values : Values) (valid : AreBlocks g.blocks) (law : LeastCountyIsTold) where
  mark_at : (place : ℕ) → place < length g.blocks → is_listed_at (listed_of g values) place ≡ is_some (value_at values (id_at g.blocks place))
  mark_at place within = ap is_some (get_or-map (value_at values) (ids g) place 0 None (rw length-map within))

  place_of : (P : ℕ → Type 0) → Any P (ids g) → (place : ℕ) × (place < length g.blocks) × P (id_at g.blocks place)
  place_of P (place, id, inside, there, is) = search (rules, there, get_or_default_zero, length-map)

  number_of : (P : ℕ → Type 0) (place : ℕ) → place < length g.blocks → P (id_at g.blocks place) → Any P (ids g)
  number_of P place within is = (place, id_at g.blocks place, rw length-map within, get_or_default_zero (ids g) place (id_at g.blocks place) (rw length-map within), is)

  -- where side by side all agree, no county of them is in part
  no_part : (end : ℕ) → Agree g.blocks (listed_of g values) end → end ≤ length g.blocks → (county : ℕ)
      → ((place : ℕ) → place < length g.blocks → county_at g.blocks place ≡ county → place < end) → ¬ IsInPart g values county
  no_part end agree within county before part =
      let (i, first, (of_county, some)) = place_of (λ id. (county_of id ≡ county) × IsSome (value_at values id)) part.some in
      let (j, second, (same_county, missing)) = place_of (λ id. (county_of id ≡ county) × (value_at values id ≡ None)) part.not_all in
      let same = together g.blocks (listed_of g values) valid end agree within i j (before i first of_county) (before j second same_county) (of_county ∙ sym same_county) in
      let clash : true ≡ false = sym (sym same ∙ mark_at i first ∙ some) ∙ mark_at j second ∙ ap is_some missing in absurd (cc)

  missing_where : (o : Option ℕ) → is_some o ≡ false → o ≡ None
  missing_where None e = refl
  missing_where (Some x) e = absurd (cc)

  in_part : (i j : ℕ) → i < length g.blocks → j < length g.blocks → county_at g.blocks i ≡ county_at g.blocks j
      → is_listed_at (listed_of g values) i ≡ true → is_listed_at (listed_of g values) j ≡ false → IsInPart g values (county_at g.blocks j)
  in_part i j first second same listed not_listed = record {
    some = number_of (λ id. (county_of id ≡ county_at g.blocks j) × IsSome (value_at values id)) i first (same, sym (mark_at i first) ∙ listed);
    not_all = number_of (λ id. (county_of id ≡ county_at g.blocks j) × (value_at values id ≡ None)) j second (refl, missing_where _ (sym (mark_at j second) ∙ not_listed));
  }

  either : (a b : Bool) (i j : ℕ) → i < length g.blocks → j < length g.blocks → county_at g.blocks i ≡ county_at g.blocks j
      → is_listed_at (listed_of g values) i ≡ a → is_listed_at (listed_of g values) j ≡ b → a ≢ b → IsInPart g values (county_at g.blocks j)
  either true false i j first second same one other differ = in_part i j first second same one other
  either false true i j first second same one other differ = rw same at (in_part j i second first (sym same) other one)
  either _ _ i j first second same one other differ = absurd (differ refl)

  pub county_is : (place : ℕ) → Agree g.blocks (listed_of g values) (place + 1) → place + 1 < length g.blocks → county_at g.blocks place ≡ county_at g.blocks (place + 1)
      → is_listed_at (listed_of g values) place ≢ is_listed_at (listed_of g values) (place + 1) → partly_listed g values ≡ Some (county_at g.blocks (place + 1))
  county_is place agree within same differ = ((law g values valid).least (county_at g.blocks (place + 1))).1 (record {
    part = either _ _ place (place + 1) (omega (arith, within)) within same refl refl differ;
    least = λ other less. no_part (place + 1) agree (omega (arith, within)) other (λ k inside is. ⊎_elim
        (λ below. below)
        (λ (over : place + 1 ≤ k). let rises : county_at g.blocks (place + 1) ≤ county_at g.blocks k = climbs g.blocks (listed_of g values) valid (place + 1) k over inside in absurd (omega (arith, rises, is, less)))
        (cases_lt k (place + 1)));
  })

  -- the ends of a walk over the blocks
  pub none_there : (blocks : List BlockRow) (listed : List (Option ℕ)) (end : ℕ) → blocks ≡ g.blocks → listed ≡ listed_of g values → Agree blocks listed end → length blocks ≤ end
      → None ≡ partly_listed g values
  none_there blocks listed end same is agree past =
      let here = rw (same, is) at agree in
      let over = rw same at past in
      sym ((law g values valid).none.1 (λ county. no_part (length g.blocks) (λ k within. here k (omega (arith, within, over))) (omega arith) county (λ place inside _. inside)))

  county_here : (place : ℕ) (row : BlockRow) → place < length g.blocks → county_at g.blocks place ≡ county_of (get_or g.blocks place row).id
  county_here place row within = ap county_of (get_or-map (λ b. b.id) g.blocks place row 0 within)

  differ_from : (a b x y : Bool) → not (beq a b) ≡ true → a ≡ x → b ≡ y → y ≢ x
  differ_from true true x y told one other same = absurd (cc)
  differ_from _ _ x y told one other same = absurd (cc)

  pub county_there : (blocks : List BlockRow) (listed : List (Option ℕ)) (place : ℕ) (row before : BlockRow) (county other : ℕ) (a b : Bool) → blocks ≡ g.blocks → listed ≡ listed_of g values
      → Agree blocks listed place → 1 ≤ place → place < length blocks → county ≡ county_of (get_or blocks place row).id → other ≡ county_of (get_or blocks (place - 1) before).id
      → other ≡ county → a ≡ is_listed_at listed place → b ≡ is_listed_at listed (place - 1) → not (beq a b) ≡ true → Some county ≡ partly_listed g values
  county_there blocks listed place row before county other a b same is agree from within one two equal mark mark_before told =
      let k = place - 1 in
      let next : k + 1 ≡ place = omega (arith, from) in
      let inside : place < length g.blocks = rw same at within in
      let low : county_at g.blocks k ≡ other = county_here k before (omega (arith, inside)) ∙ sym (rw same at two) in
      let high : county_at g.blocks (k + 1) ≡ county = ap (county_at g.blocks) next ∙ county_here place row inside ∙ sym (rw same at one) in
      let differ : is_listed_at (listed_of g values) k ≢ is_listed_at (listed_of g values) place = differ_from a b _ _ told (rw is at mark) (rw is at mark_before) in
      ap Some (sym high) ∙ sym (county_is k (rw (← next, same, is) at agree) (rw (← next) at inside) (low ∙ equal ∙ sym high) (λ e. differ (e ∙ ap (is_listed_at (listed_of g values)) next)))

-- the walk goes on where two blocks side by side are of two counties, or both are listed or both not
same_from : (a b x y : Bool) → not (beq a b) ≡ false → a ≡ x → b ≡ y → y ≡ x
same_from true false x y told one other = absurd (cc)
same_from false true x y told one other = absurd (cc)
same_from _ _ x y told one other = sym other ∙ one

module _ (blocks : List BlockRow) (listed : List (Option ℕ)) (place : ℕ) (agree : Agree blocks listed place) (from : 1 ≤ place) where
  agree_next : (county_at blocks (place - 1) ≡ county_at blocks place → is_listed_at listed (place - 1) ≡ is_listed_at listed place) → Agree blocks listed (place + 1)
  agree_next step k inside same = search (rules, cases_lt)

  pub agree_alike : (a b : Bool) → a ≡ is_listed_at listed place → b ≡ is_listed_at listed (place - 1) → not (beq a b) ≡ false → Agree blocks listed (place + 1)
  agree_alike a b mark mark_before told = agree_next (λ _. same_from a b _ _ told mark mark_before)

  pub agree_apart : (row after : BlockRow) (county other : ℕ) → place < length blocks → county ≡ county_of (get_or blocks place row).id → other ≡ county_of (get_or blocks (place - 1) after).id
      → other ≢ county → Agree blocks listed (place + 1)
  agree_apart row after county other within one two differ = search (rules, agree_next, get_or-map)
