use Rattle.{std.proofs.Common.{sym, ◌∙◌}, desk_store_rows.specs.claim.Keys.begun, plan_revisions_sweeps.specs.Finding.spared_key}
use Rattle.{desk_store_pages.proofs.Looking.{both, fails, fails_then, finds, refuses}, plan_revisions_sweeps.proofs.Left.{begun_told, mark_of, no_begun, load_next_left}}
use Rattle.plan_revisions_sweeps.proofs.leftovers.left_of_loads.Goals as goal

pub returns-in_err-first_mark : goal.returns-in_err-first_mark
returns-in_err-first_mark g c = fails c.from_residual.result c.in_err-first_mark.ensures c.from_residual.ensures.1 (λ m tidy. tt)

pub returns-then-not-branch : goal.returns-then-not-branch
returns-then-not-branch g c = finds c.in_ok-first_mark.ensures (λ m found tidy. no_begun m c.args.running c.spared_mark-spared.ensures.fits
    (rw (c.as_slice.ensures.bytes, c.all_begun-prefix.ensures, c.as_slice-2.ensures.bytes, c.spared_mark-spared.ensures.key, c.if-not-branch.true) at found))

pub returns-in_default : goal.returns-in_default
returns-in_default g c =
    refuses c.in_ok-first_mark.ensures (λ m found tidy. begun_told m tidy.rows _ _ (rw (c.as_slice.ensures.bytes, c.all_begun-prefix.ensures, c.if-not-branch.false) at found)
    (λ load is. c.in_default.ensures load (c.as_slice-3.ensures.bytes ∙ is)))

pub returns-in_err-left_of_load : goal.returns-in_err-left_of_load
returns-in_err-left_of_load g c =
    fails_then c.in_ok-first_mark.ensures c.from_residual-in_err-left_of_load.result c.in_err-left_of_load.ensures c.from_residual-in_err-left_of_load.ensures.1 (λ m found tidy.
    let told = sym c.as_slice-3.ensures.bytes ∙ c.in-Some.ensures in
    (tidy, mark_of m (begun c.in-Some.load) _ _ _ told (rw (c.as_slice.ensures.bytes, c.all_begun-prefix.ensures, c.if-not-branch.false) at found)))

pub returns : goal.returns
returns g c = finds (both c.in_ok-first_mark.ensures c.in_ok-left_of_load.ensures) (λ m found tidy.
    let row = c.first_mark.new.row in
    let load = c.in-Some.load in
    let told = sym c.as_slice-3.ensures.bytes ∙ c.in-Some.ensures in
    let is = rw (c.as_slice.ensures.bytes, c.all_begun-prefix.ensures, c.as_slice-2.ensures.bytes, c.spared_mark-spared.ensures.key, c.if-not-branch.false) at found.0 in
    load_next_left m c.args.running load row told is c.left_of_load.new.row.key (found.1 (tidy, mark_of m (begun load) _ (spared_key c.args.running) row told is)))
