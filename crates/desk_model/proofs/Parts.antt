-- Counties that are listed in part, and the first block that is left out.
use Rattle.std.{specs.{List.{position_or_len, Any}, Prelude.{not, ◌&&◌, ◌==◌, is_some, option_map}}, proofs.lemmas.Bool.{cases_lt, and_parts, Decides.Decides-eqb}}
use Rattle.std.proofs.Common.{rules, ◌≡◌, ℕ, ◌<◌, ◌≤◌, true, false, length, get_or, Option, Some, None, IsSome, ◌⊎◌, inl, inr, arith, refl, ap, sym, ◌∙◌, ⊎_elim}
use Rattle.std.proofs.lemmas.{Grind.get_or_default_zero, List.{get_or-map, length-map, Folds.{find_at, list_any_at, Any-from_list_any}, Sums.{fails_before_first, passes_at_first}}}
use Rattle.{std.proofs.lemmas.{Map.Keys.{sorted_from_strictly_increasing, below_from_sorted}, Option.slice_get_cases}, desk_model.specs.claim.Baf.{Values, value_at}}
use Rattle.desk_model.specs.{Counties.{IsInPart, IsLeastInPart, LeastCountyIsTold}, claim.{Block.{county_of, state_of}, Geography.{GeographyModel, ids, id_at}}}
use Rattle.desk_model.specs.{claim.{GeographyModels.AreBlocks, Step.{partly_listed, is_left_out, is_county_listed}}, declared.block.BlockRow.BlockRow}

-- in one state counties rise with the numbers
pub county_rises : (a b : ℕ) → a ≤ b → state_of a ≡ state_of b → county_of a ≤ county_of b
county_rises a b less same = omega (arith, less, same)

-- a block that is left out, at its place
record IsLeftAt (g : GeographyModel) (listed : Values) (place : ℕ) (row : BlockRow) : Type 0 where
  pub within : place < length g.blocks
  pub here : get_or g.blocks place row ≡ row
  pub out : is_left_out g listed row ≡ true

module _ (g : GeographyModel) (listed : Values) (valid : AreBlocks g.blocks) where
  number_at : (place : ℕ) (row : BlockRow) → place < length g.blocks → get_or g.blocks place row ≡ row → id_at g.blocks place ≡ row.id
  number_at place row within here = get_or-map (λ b. b.id) g.blocks place row 0 within ∙ ap (λ b. b.id) here

  pub climbs : (i j : ℕ) → i ≤ j → j < length g.blocks → county_of (id_at g.blocks i) ≤ county_of (id_at g.blocks j)
  climbs i j less within = ⊎_elim
      (λ lower. county_rises _ _ (omega (arith, below_from_sorted (ids g) i j 0 (sorted_from_strictly_increasing (ids g) valid.rising) lower (rw length-map within)))
      (valid.one_state i 0 (rw length-map (omega arith)) ∙ sym (valid.one_state j 0 (rw length-map within))))
      (λ (over : j ≤ i). let e : i ≡ j = omega arith in rw e (omega arith))
      (cases_lt i j)

  missing_where : (o : Option ℕ) → not (is_some o) ≡ true → o ≡ None
  missing_where o e = search arith

  -- the county of a block that is left out is listed in part
  in_part : (place : ℕ) (row : BlockRow) → IsLeftAt g listed place row → IsInPart g listed (county_of row.id)
  in_part place row left =
      let parts = and_parts (not (is_some (value_at listed row.id))) (is_county_listed g listed (county_of row.id)) left.out in
      let (k, other, within, here, passes) = Any-from_list_any (λ (b : BlockRow). (county_of b.id == county_of row.id) && is_some (value_at listed b.id)) g.blocks parts.1 in
      let both = and_parts (county_of other.id == county_of row.id) (is_some (value_at listed other.id)) passes in
      record {
        some = (k, other.id, rw length-map within, get_or-map (λ b. b.id) g.blocks k other other.id within ∙ ap (λ b. b.id) here, ((Decides-eqb _ _).0 both.0, both.1));
        not_all = (place, row.id, rw length-map left.within, get_or-map (λ b. b.id) g.blocks place row row.id left.within ∙ ap (λ b. b.id) left.here, (refl, missing_where _ parts.0));
      }

  -- the block of a number that there is
  block_with : (P : ℕ → Type 0) → Any P (ids g) → (place : ℕ) × (row : BlockRow) × (place < length g.blocks) × (get_or g.blocks place row ≡ row) × P row.id
  block_with P (place, id, inside, there, is) =
      let within : place < length g.blocks = rw length-map at inside in
      ⊎_elim
      (λ found. search (rules, get_or_default_zero, number_at))
      (λ past. absurd (omega (arith, within, past.0)))
      (slice_get_cases g.blocks place).1

  -- and a county that is listed in part has a block that is left out
  left_of : (county : ℕ) → IsInPart g listed county → (place : ℕ) × (row : BlockRow) × IsLeftAt g listed place row × (county_of row.id ≡ county)
  left_of county part =
      let (k, row, within, here, (of_county, missing)) = block_with (λ id. (county_of id ≡ county) × (value_at listed id ≡ None)) part.not_all in
      let (j, other, also, there, (same, some)) = block_with (λ id. (county_of id ≡ county) × IsSome (value_at listed id)) part.some in
      let passes : ((county_of other.id == county_of row.id) && is_some (value_at listed other.id)) ≡ true = rw ((Decides-eqb (county_of other.id) (county_of row.id)).1 (same ∙ sym of_county), some) refl in (
        k,
        row,
        record {
          within = within;
          here = here;
          out = rw (missing, list_any_at (λ (b : BlockRow). (county_of b.id == county_of row.id) && is_some (value_at listed b.id)) g.blocks j other also (rw there passes)) refl;
        },
        of_county,
      )

  abbrev first : ℕ
  first = position_or_len (is_left_out g listed) g.blocks

  -- the first block that is left out
  record IsFirst (told : Option ℕ) : Type 0 where
    pub row : BlockRow
    pub left : IsLeftAt g listed first row
    pub told_is : told ≡ Some (county_of row.id)

  first_is : ((length g.blocks ≤ first) × (partly_listed g listed ≡ None)) ⊎ IsFirst (partly_listed g listed)
  first_is = ⊎_elim
      (λ found. inr (record {
        row = found.0;
        left = record { within = found.1; here = found.3; out = rw (sym found.3) (passes_at_first (is_left_out g listed) g.blocks found.0 found.1) };
        told_is = ap (option_map (λ b. county_of b.id)) (find_at (is_left_out g listed) g.blocks ∙ found.2);
      }))
      (λ past. inl (past.0, ap (option_map (λ b. county_of b.id)) (find_at (is_left_out g listed) g.blocks ∙ past.1)))
      (slice_get_cases g.blocks first).1

  -- what is left out isn't before it
  from_first : (k : ℕ) (row : BlockRow) → IsLeftAt g listed k row → first ≤ k
  from_first k row left = ⊎_elim
      (λ before. let clash : true ≡ false = sym left.out ∙ ap (is_left_out g listed) (sym left.here) ∙ fails_before_first (is_left_out g listed) g.blocks k row before in absurd (cc))
      (λ (from : first ≤ k). from)
      (cases_lt k first)

  -- so its county isn't above another that is listed in part
  not_above : (told : IsFirst (partly_listed g listed)) (county : ℕ) → IsInPart g listed county → county_of told.row.id ≤ county
  not_above told county part =
      let (k, row, left, is) = left_of county part in
      let low : id_at g.blocks first ≡ told.row.id = number_at first told.row told.left.within told.left.here in
      let high : id_at g.blocks k ≡ row.id = number_at k row left.within left.here in
      let rises : county_of told.row.id ≤ county_of row.id = rw (low, high) at (climbs first k (from_first k row left) left.within) in
      omega (arith, rises, is)

  -- and where there is one, there is such a block
  is_first : (county : ℕ) → IsInPart g listed county → IsFirst (partly_listed g listed)
  is_first county part = search (arith, left_of county part, from_first, first_is)

  least_from : (county : ℕ) → partly_listed g listed ≡ Some county → IsLeastInPart g listed county
  least_from county says = ⊎_elim
      (λ none. let clash : None ≡ Some county = sym none.1 ∙ says in absurd (cc))
      (λ told.
      let same : Some (county_of told.row.id) ≡ Some county = sym told.told_is ∙ says in
      let is : county_of told.row.id ≡ county = cc in
      record {
        part = rw is at (in_part first told.row told.left);
        least = λ other less part. let above : county_of told.row.id ≤ other = not_above told other part in omega (arith, above, is, less);
      })
      first_is

  from_least : (county : ℕ) → IsLeastInPart g listed county → partly_listed g listed ≡ Some county
  from_least county least =
      let told = is_first county least.part in
      let above : county_of told.row.id ≤ county = not_above told county least.part in
      ⊎_elim
      (λ less. absurd (least.least (county_of told.row.id) less (in_part first told.row told.left)))
      (λ (not_less : county ≤ county_of told.row.id). let same : county_of told.row.id ≡ county = omega arith in told.told_is ∙ ap Some same)
      (cases_lt (county_of told.row.id) county)

  none_from : partly_listed g listed ≡ None → (county : ℕ) → ¬ IsInPart g listed county
  none_from says county part = let told = is_first county part in let clash : None ≡ Some (county_of told.row.id) = sym says ∙ told.told_is in absurd (cc)

  from_none : ((county : ℕ) → ¬ IsInPart g listed county) → partly_listed g listed ≡ None
  from_none never = ⊎_elim (λ none. none.1) (λ told. absurd (never (county_of told.row.id) (in_part first told.row told.left))) first_is

pub least_is_told : LeastCountyIsTold
least_is_told g listed valid = record { least = λ county. (least_from g listed valid county, from_least g listed valid county); none = (none_from g listed valid, from_none g listed valid) }
