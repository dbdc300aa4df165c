use Rattle.std.proofs.Common.{Ok, Err, rules, refl}
use Rattle.check_command.proofs.check.counts_of.Goals as goal

pub returns-in_err-rows : goal.returns-in_err-rows
returns-in_err-rows g c = let read = c.in_err-rows.ensures.read in (read.0, read.2, (Err c.in_err-rows.field-0.0, read.1, (tt, search (rules))))

pub returns-in-Ok : goal.returns-in-Ok
returns-in-Ok g c =
    let read = c.in_ok-rows.ensures.read in
    (read.0, read.2, (Ok c.in_ok-rows.rows, read.1, rw (← c.as_slice.ensures.value) c.in-Ok.ensures))

pub returns : goal.returns
returns g c = let read = c.in_ok-rows.ensures.read in (read.0, read.2, (Ok c.in_ok-rows.rows, read.1, refl))
