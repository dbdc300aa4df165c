use Rattle.{std.proofs.{Common.{◌≡◌, ℕ, ◌<◌, List, length, arith, ap, subst, ◌∙◌}, lemmas.List.take_at}, audit_splits_nesting.specs.Marks.{one_part, value_at}}
use Rattle.{audit_splits_nesting.specs.{Splits.AreDividedGroups, claim.Divided.{county_at, IsInCity, IsInCounty}}, desk_model.specs.declared.block.BlockRow.BlockRow}
use Rattle.audit_splits_nesting.proofs.{Meaning.{divided_are, divided_from_split, split_from_divided, within_from_split, split_from_within}, Places.county_below}
use Rattle.audit_splits_nesting.proofs.splits.divided_groups.Goals as goal

pub returns : goal.returns
returns c =
    let blocks = c.blocks-blocks.result.now in
    let plan = c.args.plan.now in
    let marks = c.mark_groups.ensures in
    let wide = length c.as_mut_slice-2.result.now in
    let size : wide ≡ c.city_codes-codes.result = ap length c.as_mut_slice-2.ensures.value ∙ c.in_ok-cities.ensures.long in
    let above : (city place : ℕ) → IsInCity blocks city place → city < wide = λ city place lies. omega (arith, size, c.city_codes-codes.ensures.above city place lies.within lies) in
    let counties : c.as_slice.result.now ≡ c.mark_groups.new.counties = c.as_slice.ensures.value ∙ take_at c.mark_groups.new.counties _ c.in_ok-counties.counties.len (omega (arith, marks.of_counties.long)) in
    let cities : c.as_slice-2.result.now ≡ c.mark_groups.new.cities = c.as_slice-2.ensures.value ∙ take_at c.mark_groups.new.cities _ c.in_ok-cities.cities.len (omega (arith, marks.of_cities.long)) in
    let by_county : c.as_slice-3.result.now ≡ c.mark_groups.new.by_county = c.as_slice-3.ensures.value ∙ take_at c.mark_groups.new.by_county _ c.in_ok-by_county.by_county.len (omega (arith, marks.of_both.long)) in
    subst (λ (bs : List BlockRow). AreDividedGroups bs plan (record { counties = c.in_ok-divided_u16.field-0; cities = c.in_ok-divided_u32.field-0; cities_in_county = c.in_ok-divided_u32-2.field-0 })) c.blocks-blocks.ensures.value record {
      counties = divided_are (IsInCounty blocks) one_part (value_at plan) marks.of_counties _ (λ k. divided_from_split (IsInCounty blocks k) plan)
          (λ k. split_from_divided (IsInCounty blocks k) plan) (λ k i lies. (county_below blocks k i lies, lies.within)) (rw (← counties) c.in_ok-divided_u16.ensures);
      cities = divided_are (IsInCity blocks) one_part (value_at plan) marks.of_cities _ (λ k. divided_from_split (IsInCity blocks k) plan)
          (λ k. split_from_divided (IsInCity blocks k) plan) (λ k i lies. (above k i lies, lies.within)) (rw (← cities) c.in_ok-divided_u32.ensures);
      cities_in_county = divided_are (IsInCity blocks) (county_at blocks) (value_at plan) marks.of_both _ (within_from_split blocks plan) (split_from_within blocks plan)
          (λ k i lies. (above k i lies, lies.within)) (rw (← by_county) c.in_ok-divided_u32-2.ensures);
    }
