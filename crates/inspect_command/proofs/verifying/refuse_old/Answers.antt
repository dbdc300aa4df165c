use Rattle.inspect_command.{specs.Sound.OldIn, proofs.Unsound.{told_as, version_told}}
use Rattle.inspect_command.proofs.verifying.refuse_old.Goals as goal

pub returns-in-Err-clause-err : goal.returns-in-Err-clause-err
returns-in-Err-clause-err g c =
    let t = c.args.txn.now in
    let a = c.args.pages.now in
    let b = c.is_new.new.pages in
    told_as (OldIn t a b) b c.in-Err.e c.is_halted.result c.store_fault.ensures c.row_error.ensures c.is_halted.ensures (λ on. on)
    (λ works. version_told t a b c.in-Err.e c.requires.working works c.in-Err.ensures.err)
