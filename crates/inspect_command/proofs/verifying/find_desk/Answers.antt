use Rattle.{std.proofs.Common.rules, inspect_command.specs.Sound.UnsoundIn, page_btree.specs.gets.claim.Map.InTxn}
use Rattle.inspect_command.proofs.Unsound.{then_check, told_as, unsound_told, old_unsound, sound_as, still}
use Rattle.inspect_command.proofs.verifying.find_desk.Goals as goal

pub returns-in_err-refuse_old-clause-err : goal.returns-in_err-refuse_old-clause-err
returns-in_err-refuse_old-clause-err g c = search (rules, old_unsound)

pub returns-in-Ok-clause-sound : goal.returns-in-Ok-clause-sound
returns-in-Ok-clause-sound g c = λ honest m holds.
    let old = c.in_ok-refuse_old.ensures in
    let quiet = c.check_desk.ensures.quiet in
    sound_as m c.in-Ok.checked.stray c.in-Ok.checked.rows (old.version (quiet.honest honest) m holds) (c.in-Ok.ensures.found honest m (still (λ P. InTxn c.args.txn.now P m) old.passed quiet honest holds))

pub returns-in-Ok-clause-right : goal.returns-in-Ok-clause-right
returns-in-Ok-clause-right g c = λ honest d h.
    let holds = still (λ P. InTxn c.args.txn.now P h.m) c.in_ok-refuse_old.ensures.passed c.check_desk.ensures.quiet honest h.holds in
    c.in-Ok.ensures.right honest d (record { m = h.m; holds = holds; is = h.is })

pub returns-in-Err-clause-err : goal.returns-in-Err-clause-err
returns-in-Err-clause-err g c =
    let t = c.args.txn.now in
    let a = c.args.pages.now in
    let d = c.check_desk.new.pages in
    told_as (UnsoundIn t a d) d c.in-Err.e c.is_halted.result c.store_fault.ensures c.row_error.ensures c.is_halted.ensures (λ on. on)
    (λ works. unsound_told t a d c.in-Err.e c.requires.working works (then_check t a c.refuse_old.new.pages d c.in-Err.e c.in_ok-refuse_old.ensures.passed c.check_desk.ensures.quiet c.in-Err.ensures.err))
