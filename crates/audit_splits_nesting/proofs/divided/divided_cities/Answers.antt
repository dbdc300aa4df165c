use Rattle.{std.proofs.{Common.{◌≡◌, ◌∙◌, ℕ, ◌<◌, List, length, ap, arith, subst}, lemmas.{List.take_at, Result.IfOk-weaker}}, audit_splits_nesting.specs.claim.Exactly.AreExactly}
use Rattle.{audit_splits_nesting.specs.{Marks.{one_part, value_at}, claim.Divided.{IsInCity, IsDividedCity}}, desk_model.specs.declared.block.BlockRow.BlockRow}
use Rattle.audit_splits_nesting.proofs.Meaning.{divided_are, divided_from_split, split_from_divided}
use Rattle.audit_splits_nesting.proofs.divided.divided_cities.Goals as goal

pub returns : goal.returns
returns c =
    let blocks = c.blocks-blocks.result.now in
    let plan = c.args.plan.now in
    let marks = c.mark_cities.new.marks in
    let size : length c.as_mut_slice.result.now ≡ c.city_codes.result = ap length c.as_mut_slice.ensures.value ∙ c.in_ok-marks.ensures.long in
    let above : (city place : ℕ) → IsInCity blocks city place → city < length c.as_mut_slice.result.now = λ city place lies. omega (arith, size, c.city_codes.ensures.above city place lies.within lies) in
    let shown : c.as_slice.result.now ≡ marks = c.as_slice.ensures.value ∙ take_at marks _ c.in_ok-marks.marks.len (omega (arith, c.mark_cities.ensures.long)) in
    IfOk-weaker c.divided_u32.result _ _
    (λ v exactly. subst (λ (bs : List BlockRow). AreExactly (IsDividedCity bs plan) v.items) c.blocks-blocks.ensures.value
    (divided_are (IsInCity blocks) one_part (value_at plan) c.mark_cities.ensures _ (λ k. divided_from_split (IsInCity blocks k) plan)
    (λ k. split_from_divided (IsInCity blocks k) plan) (λ k i lies. (above k i lies, lies.within)) (rw (← shown) exactly)))
    c.divided_u32.ensures
