use Rattle.store_verification.{specs.Looking.HasSeen, proofs.Opened.{looked, not_opened}}
use Rattle.store_verification.proofs.jobs.look_at_rows.Goals as goal

pub returns-in-Err : goal.returns-in-Err
returns-in-Err g c = not_opened g.R.SectorDevice HasSeen c.args.reader c.in-Err.left c.in-Err.e c.unopened.result c.in-Err.ensures.sectors c.unopened.ensures c.in-Err.ensures.err

pub returns : goal.returns
returns g c =
    let opened = c.in-Ok.ensures in
    looked g.R.SectorDevice HasSeen (g.R.SectorDevice.disk c.args.reader) c.in-Ok.pages c.rows_in-found.new.pages opened.sectors opened.room opened.found opened.working opened.passed c.rows_in-found.ensures.quiet
    c.into_device.result c.into_device.ensures c.rows_in-found.result c.is_halted.result c.look_of.result c.is_halted.ensures c.rows_in-found.ensures.found c.look_of.ensures
