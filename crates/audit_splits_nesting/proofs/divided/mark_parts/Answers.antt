use Rattle.{std.proofs.Common.{length, arith, rules}, audit_splits_nesting.{specs.{Marks.value_at, claim.Divided.{county_at, IsInCity}}, proofs.Marking.{marks_take, marks_pass}}}
use Rattle.audit_splits_nesting.proofs.Places.{in_city, in_no_city, one_city, counties_rise, county_here}
use Rattle.audit_splits_nesting.proofs.divided.mark_parts.Goals as goal
use Rattle.audit_splits_nesting.proofs.divided.mark_parts.Goals.{in-Some, in_default}

pub bounds-marks-city : goal.bounds-marks-city
bounds-marks-city c = search (rules, c.requires.codes.above, in_city)

pub loop-i-preserved : goal.loop-i-preserved
loop-i-preserved c =
    let blocks = c.args.blocks.now in
    let plan = c.args.plan.now in
    let i = c.loop-i.i in
    let row = c.index-blocks-i.result in
    let wide = length c.args.marks.now in
    elim c.match-block.branch [
      | in-Some w ↦
          let city = w.in-Some.city in
          let here = in_city blocks i city row (omega arith) c.index-blocks-i.is w.in-Some.is in
          rw (w.marks-is, w.note.ensures, w.county.ensures, ← county_here blocks i row (omega arith) c.index-blocks-i.is)
          (marks_take (IsInCity blocks) (county_at blocks) (value_at plan) i wide city c.loop-i.marks (c.requires.codes.above city i (omega arith) here) here
          (λ k lies. one_city blocks k city i lies here) (λ j less lies. counties_rise blocks j i c.requires.rows less (omega arith)) c.loop-i.invariant)
      | in_default w ↦
          rw w.marks-is
          (marks_pass (IsInCity blocks) (county_at blocks) (value_at plan) i wide c.loop-i.marks
          (λ k less. in_no_city blocks i k row (omega arith) c.index-blocks-i.is w.in_default.is) c.loop-i.invariant)
    ]
