use Rattle.{std.proofs.Common.{ℕ, List, length, Ok, Err, ap, arith, rules}, desk_model.specs.claim.Room.fork_rows, plan_revisions.specs.{Forking.HasSource, Plans.TakesFork}}
use Rattle.{desk_store_pages.proofs.Writing.{does, told_on}, plan_revisions.proofs.{Forking.{forks, none_left}, LastRevision.sought_said}}
use Rattle.plan_revisions_sweeps.proofs.chunk_table.Writing.{only_read, unread}
use Rattle.plan_revisions.proofs.forks.fork.Goals as goal

pub returns-in_err-read : goal.returns-in_err-read
returns-in_err-read g c =
    let the_geography = c.args.geography.now in
    let from : List ℕ × ℕ = (c.args.from.now, c.args.revision) in
    let e = c.in_err-read.field-0.0 in
    unread c.from_residual.result e c.requires.begun c.in_err-read.ensures.gathers.quiet c.from_residual.ensures.1
    (sought_said (HasSource from (length c.counties-ranges.result.now)) (TakesFork the_geography c.args.name.now from) (fork_rows the_geography) c.args.txn.now c.args.pages.now c.read_source.new.pages e
    (λ m d is said. record { g = the_geography; many = ap length c.counties-ranges.ensures; desk = (d, is, (said.districts, said.source)) }) c.in_err-read.ensures.gathers.err)

pub returns-then-read : goal.returns-then-read
returns-then-read g c = only_read c.requires.begun c.in_ok-read.ensures.gathers.quiet
    (none_left c.args.geography.now c.in_ok-read.ensures.gathers c.in_ok-read.ensures.fits c.counties-ranges.ensures c.if-read.true)

pub put_fork-requires-clause-few : goal.put_fork-requires-clause-few
put_fork-requires-clause-few g c = search rules

pub put_fork-requires-clause-left : goal.put_fork-requires-clause-left
put_fork-requires-clause-left g c = search (rules, arith, c.in_ok-read.ensures.fits.1.plan_fits, c.if-read.false)

pub returns-in_err-put_fork : goal.returns-in_err-put_fork
returns-in_err-put_fork g c = told_on c.from_residual-in_err-put_fork.result
    (forks c.args.geography.now c.in_ok-read.ensures.gathers c.in_ok-read.ensures.fits c.counties-ranges.ensures c.args.name.now c.blocks-blocks.ensures.valid c.as_slice-named.ensures.valid
    c.if-read.false c.forks_are_made.ensures c.next_is_one.ensures (Err c.in_err-put_fork.field-0.0) c.as_slice.ensures.value c.in_err-put_fork.ensures)
    c.from_residual-in_err-put_fork.ensures.1 (λ why. why)

pub returns : goal.returns
returns g c = does
    (forks c.args.geography.now c.in_ok-read.ensures.gathers c.in_ok-read.ensures.fits c.counties-ranges.ensures c.args.name.now c.blocks-blocks.ensures.valid c.as_slice-named.ensures.valid
    c.if-read.false c.forks_are_made.ensures c.next_is_one.ensures (Ok c.in_ok-put_fork.field-0) c.as_slice.ensures.value c.in_ok-put_fork.ensures)
    (λ did. did)

pub put_fork-requires-clause-fits : goal.put_fork-requires-clause-fits
put_fork-requires-clause-fits g c = c.in_ok-read.ensures.fits.1
