use Rattle.{std.proofs.Common.{arith, sym, ◌∙◌}, audit_splits_nesting.{specs.{Marks.{one_part, value_at}, claim.Divided.IsInCounty}, proofs.Marking.marks_take}}
use Rattle.audit_splits_nesting.proofs.Places.{in_county, county_below}
use Rattle.audit_splits_nesting.proofs.divided.mark_counties.Goals as goal

pub loop-i-preserved : goal.loop-i-preserved
loop-i-preserved c =
    let blocks = c.args.blocks.now in
    let i = c.loop-i.i in
    let here = in_county blocks i c.county.result c.index-blocks-i.result (omega arith) c.index-blocks-i.is c.county.ensures in
    rw c.note.ensures
    (marks_take (IsInCounty blocks) one_part (value_at c.args.plan.now) i 1000 c.county.result c.loop-i.marks (county_below blocks c.county.result i here) here
    (λ k lies. sym lies.county_is ∙ here.county_is) (λ j less lies. omega arith) c.loop-i.invariant)
