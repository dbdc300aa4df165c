use Rattle.{std.proofs.{Common.{◌≡◌, ◌∙◌, List, arith, subst}, lemmas.{List.take_at, Result.IfOk-weaker}}, audit_splits_nesting.specs.Marks.{one_part, value_at}}
use Rattle.{audit_splits_nesting.specs.claim.{Divided.{IsInCounty, IsDividedCounty}, Exactly.AreExactly}, desk_model.specs.declared.block.BlockRow.BlockRow}
use Rattle.audit_splits_nesting.proofs.{Meaning.{divided_are, divided_from_split, split_from_divided}, Places.county_below}
use Rattle.audit_splits_nesting.proofs.divided.divided_counties.Goals as goal

pub returns : goal.returns
returns c =
    let blocks = c.blocks-2.result.now in
    let plan = c.args.plan.now in
    let marks = c.mark_counties.new.marks in
    let shown : c.as_slice.result.now ≡ marks = c.as_slice.ensures.value ∙ take_at marks _ c.in_ok-marks.marks.len (omega (arith, c.mark_counties.ensures.long)) in
    IfOk-weaker c.divided_u16.result _ _
    (λ v exactly. subst (λ (bs : List BlockRow). AreExactly (IsDividedCounty bs plan) v.items) c.blocks-2.ensures.value
    (divided_are (IsInCounty blocks) one_part (value_at plan) c.mark_counties.ensures _ (λ k. divided_from_split (IsInCounty blocks k) plan)
    (λ k. split_from_divided (IsInCounty blocks k) plan) (λ k i lies. (county_below blocks k i lies, lies.within)) (rw (← shown) exactly)))
    c.divided_u16.ensures
