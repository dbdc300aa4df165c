use Rattle.{std.proofs.{Common.{◌≡◌, ◌+◌, length, arith, ap, ◌∙◌}, lemmas.{List.take_at, Result.IfOk-weaker}}, audit_splits_nesting.proofs.Meaning.nesting_are}
use Rattle.audit_splits_nesting.proofs.nesting.nesting_breaks.Goals as goal

pub returns : goal.returns
returns c =
    let plan = c.args.plan.now in
    let companion = c.args.companion.now in
    let marks = c.mark_districts.new.marks in
    let wide = length c.as_mut_slice.result.now in
    let size : wide ≡ c.args.count + 1 = ap length c.as_mut_slice.ensures.value ∙ c.in_ok-marks.ensures.long in
    let shown : c.as_slice.result.now ≡ marks = c.as_slice.ensures.value ∙ take_at marks _ c.in_ok-marks.marks.len (omega (arith, c.mark_districts.ensures.long)) in
    IfOk-weaker c.unnested.result _ _
    (λ v exactly. nesting_are c.args.count wide plan companion marks v.items size c.mark_districts.ensures (rw (← shown) exactly)) c.unnested.ensures
