use Rattle.{std.proofs.Common.{◌≡◌, ◌+◌, Bool, List, false, length, drop, ap, ◌∙◌, arith, rules}, desk_model.specs.{claim.Room.rows_for, declared.ranges.CountyRange.CountyRange}}
use Rattle.{desk_store_catalogue.{specs.Cutting.changes_in, proofs.{Counted.{nothing_left, rows_at, rows_told}, Cutting.changed_rows}}, desk_model.proofs.Runs.lists_cut}
use Rattle.desk_store_catalogue.proofs.rows.revision_rows.Goals as goal

pub loop-place-preserved : goal.loop-place-preserved
loop-place-preserved c =
    let here = rows_at c.args.changes.now c.args.ranges.now c.loop-place.place false (record { first = 0; count = 0 }) (omega arith) c.loop-place-test.true in
    let rows = c.rows_of_range-rows.ensures in
    let was = c.loop-place.invariant in
    search rules

pub returns : goal.returns
returns c = λ g last new is are long old.
    let changes = c.args.changes.now in
    let ranges = c.args.ranges.now in
    let past = c.loop-place-test.false in
    let none : changed_rows (drop c.loop-place.place changes) (drop c.loop-place.place ranges) ≡ 0 = nothing_left changes ranges c.loop-place.place past in
    let rows : c.loop-place.rows ≡ 2 + rows_for 128 (length ranges) + changed_rows changes ranges = let was = c.loop-place.invariant.rows in omega arith in
    rows
    ∙ ap (λ (bs : List Bool). 2 + rows_for 128 (length ranges) + changed_rows bs ranges) are
    ∙ ap (λ (cs : List CountyRange). 2 + rows_for 128 (length cs) + changed_rows (changes_in last new cs) cs) is
    ∙ rows_told lists_cut g last new long old
