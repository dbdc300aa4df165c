use Rattle.{std.{specs.Prelude.Result, proofs.Common.{sym, subst}}, inspect_command.{specs.{Stats.StatsDevice, declared.figures.Figures.Figures}, proofs.Looked.stated}}
use Rattle.store_command.specs.declared.fault.StoreFault.{StoreFault}
use Rattle.inspect_command.proofs.stat.stat_device.Goals as goal

pub returns : goal.returns
returns g c =
    let rows = c.rows_of-counted.ensures in
    subst (λ (r : Result Figures StoreFault). StatsDevice g.D.SectorDevice c.args.device r c.rows_of-counted.result.1) (sym c.join.ensures)
    (stated g.D.SectorDevice c.one_desk_opens.ensures c.args.device c.in-Ok.clerk c.into_device-middle.result c.rows_of-counted.result.1 c.count-sectors.result c.held_by-told.result c.rows_of-counted.result.0
    c.in-Ok.ensures.ok c.in-Ok.ensures.shows c.into_device-middle.ensures c.count-sectors.ensures c.held_by-told.ensures.held c.held_by-told.ensures.err (rows.sectors, rows.honest, rows.any_moment, rows.faults, rows.counted, rows.err))
