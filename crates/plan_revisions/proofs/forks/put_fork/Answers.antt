use Rattle.{std.proofs.Common.{arith, rules}, desk_store_pages.proofs.Writing.told_on, page_store.proofs.Stops.quiet_more}
use Rattle.plan_revisions.proofs.Forking.{not_made, not_held, made_held, not_shared, all_put}
use Rattle.plan_revisions_sweeps.proofs.chunk_table.Writing.{after_reads, writes_as}
use Rattle.plan_revisions.proofs.forks.put_fork.Goals as goal

pub returns-in_err-put_plan : goal.returns-in_err-put_plan
returns-in_err-put_plan g c = search (rules, told_on, not_made)

pub returns-in_err-hold_all : goal.returns-in_err-hold_all
returns-in_err-hold_all g c =
    let made = c.in_ok-put_plan.ensures.did in
    told_on c.from_residual-in_err-hold_all.result (after_reads _ made.quiet c.in_err-hold_all.ensures) c.from_residual-in_err-hold_all.ensures.1
    (λ why. not_held c.args.name.now c.args.source.now c.args.next.now c.args.numbers.now c.in_err-hold_all.field-0.0 made.put why.0 why.1)

pub returns : goal.returns
returns g c =
    let name = c.args.name.now in
    let source = c.args.source.now in
    let next = c.args.next.now in
    let numbers = c.args.numbers.now in
    let made = c.in_ok-put_plan.ensures.did in
    let held = c.in_ok-hold_all.ensures in
    let both = made_held name source next numbers made.put held.put in
    writes_as c.put_shared.result (after_reads c.put_shared.result (quiet_more c.args.pages.now c.put_plan.new.pages c.hold_all.new.pages made.quiet held.quiet) c.put_shared.ensures)
    (λ _ did. all_put name source next numbers both did) (λ e why. not_shared name source next numbers e both why.0 why.1)

pub put_shared-requires-clause-can : goal.put_shared-requires-clause-can
put_shared-requires-clause-can g c = record { room = omega arith; left = (let less = c.requires.fits.chunk_fits in omega arith) }
