use Rattle.{std.proofs.Common.{◌∙◌, arith}, desk_store_pages.proofs.Looking.{fails, finds}, plan_revisions_sweeps.proofs.Left.{load_left, load_mark_left}}
use Rattle.plan_revisions_sweeps.proofs.leftovers.left_of_load.Goals as goal

pub returns-in_err-first_under : goal.returns-in_err-first_under
returns-in_err-first_under g c = fails c.from_residual.result c.in_err-first_under.ensures c.from_residual.ensures.1 (λ m has. tt)

pub returns-then-not-branch : goal.returns-then-not-branch
returns-then-not-branch g c = finds c.in_ok-first_under.ensures (λ m found has.
    let none = rw (c.as_slice.ensures.bytes, c.load-prefix.ensures, c.if-not-branch.true) at found in
    rw (c.set.ensures ∙ c.as_slice-then-not-branch.ensures.bytes ∙ c.begun.ensures)
    (load_mark_left m c.args.load (let fits = c.ranges.load in omega arith) has none))

pub returns-else-not-branch : goal.returns-else-not-branch
returns-else-not-branch g c = finds c.in_ok-first_under.ensures (λ m found has.
    load_left m c.args.load (let fits = c.ranges.load in omega arith) has _ (rw (c.as_slice.ensures.bytes, c.load-prefix.ensures, c.if-not-branch.false) at found))
