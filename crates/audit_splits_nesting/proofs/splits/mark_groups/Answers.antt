use Rattle.{std.proofs.Common.{length, arith, sym, ◌∙◌, rules}, audit_splits_nesting.specs.{Marks.{one_part, value_at}, claim.Divided.{county_at, IsInCounty, IsInCity}}}
use Rattle.audit_splits_nesting.proofs.{Marking.{marks_take, marks_pass}, Places.{in_city, in_no_city, one_city, in_county, county_below, counties_rise}}
use Rattle.audit_splits_nesting.proofs.splits.mark_groups.Goals as goal
use Rattle.audit_splits_nesting.proofs.splits.mark_groups.Goals.{in-Some, in_default}

pub bounds-cities-city : goal.bounds-cities-city
bounds-cities-city c = search (rules, c.requires.codes.above, in_city)

pub bounds-by_county-city : goal.bounds-by_county-city
bounds-by_county-city c =
    let here = in_city c.args.blocks.now c.loop-i.i c.in-Some.city c.index-blocks-i.result (omega arith) c.index-blocks-i.is c.in-Some.is in
    omega (arith, c.requires.none_by_county.long, c.requires.codes.above c.in-Some.city c.loop-i.i (omega arith) here)

pub loop-i-preserved : goal.loop-i-preserved
loop-i-preserved c =
    let blocks = c.args.blocks.now in
    let plan = c.args.plan.now in
    let i = c.loop-i.i in
    let row = c.index-blocks-i.result in
    let wide = length c.args.cities.now in
    let county = c.county_of-county.result in
    let here = in_county blocks i county row (omega arith) c.index-blocks-i.is c.county_of-county.ensures in
    let counties = marks_take (IsInCounty blocks) one_part (value_at plan) i 1000 county c.loop-i.counties (county_below blocks county i here) here
    (λ k lies. sym lies.county_is ∙ here.county_is) (λ j less lies. omega arith) c.loop-i.invariant.of_counties in
    elim c.match-block.branch [
      | in-Some w ↦
          let city = w.in-Some.city in
          let lies_here = in_city blocks i city row (omega arith) c.index-blocks-i.is w.in-Some.is in
          record {
            of_counties = rw c.note.ensures counties;
            of_cities =
                rw (w.cities-is, w.note-in-Some.ensures)
                (marks_take (IsInCity blocks) one_part (value_at plan) i wide city c.loop-i.cities (c.requires.codes.above city i (omega arith) lies_here) lies_here
                (λ k lies. one_city blocks k city i lies lies_here) (λ j less lies. omega arith) c.loop-i.invariant.of_cities);
            of_both =
                rw (w.by_county-is, w.note-in-Some-2.ensures, ← here.county_is)
                (marks_take (IsInCity blocks) (county_at blocks) (value_at plan) i wide city c.loop-i.by_county (c.requires.codes.above city i (omega arith) lies_here) lies_here
                (λ k lies. one_city blocks k city i lies lies_here) (λ j less lies. counties_rise blocks j i c.requires.rows less (omega arith)) c.loop-i.invariant.of_both);
          }
      | in_default w ↦ record {
        of_counties = rw c.note.ensures counties;
        of_cities =
            rw w.cities-is
            (marks_pass (IsInCity blocks) one_part (value_at plan) i wide c.loop-i.cities
            (λ k less. in_no_city blocks i k row (omega arith) c.index-blocks-i.is w.in_default.is) c.loop-i.invariant.of_cities);
        of_both =
            rw w.by_county-is
            (marks_pass (IsInCity blocks) (county_at blocks) (value_at plan) i wide c.loop-i.by_county
            (λ k less. in_no_city blocks i k row (omega arith) c.index-blocks-i.is w.in_default.is) c.loop-i.invariant.of_both);
      }
    ]
