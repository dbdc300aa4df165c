use Rattle.{std.proofs.Common.{refl, sym, ◌∙◌}, page_store.specs.claim.Transactions.has_halted, chunk_table.proofs.Committing.both}
use Rattle.plan_revisions_sweeps.proofs.Stepped.{begun_by, not_checked}
use Rattle.plan_revisions_sweeps.proofs.sweeps.check_holders.Goals as goal

pub returns-then-is_halted-clause-err : goal.returns-then-is_halted-clause-err
returns-then-is_halted-clause-err g c = (sym c.is_halted.ensures ∙ c.if-is_halted.true, refl)

pub returns-in-Ok-clause-sound : goal.returns-in-Ok-clause-sound
returns-in-Ok-clause-sound g c = λ honest m holds.
    c.in-Ok.ensures.there honest m ((begun_by (sym c.is_halted.ensures ∙ c.if-is_halted.false) c.begin-txn.ensures).reads (c.in-Ok.ensures.quiet.honest honest) m holds)

pub returns-in-Ok-clause-ok : goal.returns-in-Ok-clause-ok
returns-in-Ok-clause-ok g c = (sym c.is_halted.ensures ∙ c.if-is_halted.false, c.in-Ok.ensures.passed)

pub returns-in-Ok-clause-still : goal.returns-in-Ok-clause-still
returns-in-Ok-clause-still g c = λ halted. both (has_halted c.args.pages.now) halted (sym c.is_halted.ensures ∙ c.if-is_halted.false)

pub returns-clause-still : goal.returns-clause-still
returns-clause-still g c = λ halted. both (has_halted c.args.pages.now) halted (sym c.is_halted.ensures ∙ c.if-is_halted.false)

pub returns-clause-err : goal.returns-clause-err
returns-clause-err g c =
    rw (c.row_error.ensures, c.is_halted-in-Err.ensures)
    (not_checked _ _ _ (begun_by (sym c.is_halted.ensures ∙ c.if-is_halted.false) c.begin-txn.ensures)
    c.in-Err.ensures.quiet c.in-Err.error c.in-Err.ensures.err)
