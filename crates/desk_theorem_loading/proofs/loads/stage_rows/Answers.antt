use Rattle.{std.{specs.Prelude.min, proofs.Common.{◌≡◌, ◌-◌, ◌∙◌, ap, arith, rules}}, desk_store.specs.{claim.Clerks.room_of, geo_tables.Loading.{geography_model_of, done_of}}}
use Rattle.{desk_store_rows.specs.claim.GeographyRows.geography_rows, desk_theorem_loading.specs.Loads.batch_rows}
use Rattle.desk_theorem_loading.proofs.Staged.{none_staged, more_staged, batch_moved, stage_refused}
use Rattle.desk_theorem_loading.proofs.loads.stage_rows.Goals as goal

pub loop-left-init : goal.loop-left-init
loop-left-init g c = search (rules, none_staged)

pub loop-left-preserved : goal.loop-left-preserved
loop-left-preserved g c = search (c.loop-left.invariant, c.in-Ok.ensures, more_staged, c.note.ensures)

pub returns-in-Err-clause-moves : goal.returns-in-Err-clause-moves
returns-in-Err-clause-moves g c = batch_moved c.args.clerk.now c.loop-left.clerk c.load_batch.new.self c.args.load.now c.loop-left.load c.loop-left.invariant.staged c.in-Err.ensures.moves

pub returns-in-Err-clause-err : goal.returns-in-Err-clause-err
returns-in-Err-clause-err g c =
    let x = c.args.clerk.now in
    let load = c.args.load.now in
    let so_far = c.loop-left.load in
    let before = c.loop-left.invariant in
    let did = c.in-Err.ensures in
    let all : geography_rows (geography_model_of so_far) ≡ geography_rows (geography_model_of load) = ap (λ a. geography_rows a.value) before.staged.geography in
    let left : c.loop-left.left ≡ geography_rows (geography_model_of load) - done_of so_far = omega (arith, before.left, all) in
    let most : c.batch_rows-most.result ≡ batch_rows (room_of x) = c.batch_rows-most.ensures.exact ∙ ap batch_rows c.journal_pages.ensures in
    let rows : c.min.result ≡ min (geography_rows (geography_model_of load) - done_of so_far) (batch_rows (room_of x)) = c.min.ensures ∙ (λ i. min (left i) (most i)) in
    stage_refused x c.loop-left.clerk c.load_batch.new.self load so_far c.min.result before.staged before.last before.unsealed rows did.moves did.loads.desk did.loading did.loads.quiet c.in-Err.e did.err
