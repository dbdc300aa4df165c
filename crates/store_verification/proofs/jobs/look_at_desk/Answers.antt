use Rattle.store_verification.{specs.Looking.HasDesk, proofs.Opened.{looked, not_opened}}
use Rattle.store_verification.proofs.jobs.look_at_desk.Goals as goal

pub returns-in-Err : goal.returns-in-Err
returns-in-Err g c = not_opened g.R.SectorDevice HasDesk c.args.reader c.in-Err.left c.in-Err.e c.unopened.result c.in-Err.ensures.sectors c.unopened.ensures c.in-Err.ensures.err

pub returns : goal.returns
returns g c =
    let opened = c.in-Ok.ensures in
    looked g.R.SectorDevice HasDesk (g.R.SectorDevice.disk c.args.reader) c.in-Ok.pages c.desk_in-found.new.pages opened.sectors opened.room opened.found opened.working opened.passed c.desk_in-found.ensures.quiet
    c.into_device.result c.into_device.ensures c.desk_in-found.result c.is_halted.result c.look_of.result c.is_halted.ensures c.desk_in-found.ensures.found c.look_of.ensures
