use Rattle.{std.proofs.Common.rules, store_command.proofs.{Led.barred_life, Read.{begins, bars}}}
use Rattle.store_command.proofs.migrating.begin.Goals as goal

pub returns-in-Ok-clause-ok : goal.returns-in-Ok-clause-ok
returns-in-Ok-clause-ok g c = search (rules, c.in-Ok.ensures)

pub returns-in-Ok-clause-begins : goal.returns-in-Ok-clause-begins
returns-in-Ok-clause-begins g c =
    begins g.D.SectorDevice c.one_desk_opens.ensures c.args.device c.requires c.in-Ok.migration c.in-Ok.ensures.any_moment c.in-Ok.ensures.opened

pub returns-in-Err-clause-err : goal.returns-in-Err-clause-err
returns-in-Err-clause-err g c = record {
  error = c.in-Err.e;
  told = c.store_fault.ensures;
  sectors = c.in-Err.ensures.sectors;
  honest = c.in-Err.ensures.honest;
  any_moment = c.in-Err.ensures.any_moment;
  why = c.in-Err.ensures.err;
  spared = c.in-Err.ensures.untouched;
  life = barred_life g.D.SectorDevice c.one_desk_opens.ensures c.args.device c.in-Err.left c.in-Err.e c.in-Err.ensures.sectors c.in-Err.ensures.honest c.in-Err.ensures.any_moment c.in-Err.ensures.faults c.in-Err.ensures.calm c.in-Err.ensures.err c.in-Err.ensures.already;
  bars = λ honest. bars (g.D.SectorDevice.disk c.args.device) c.requires c.one_desk_opens.ensures (g.D.SectorDevice.disk c.in-Err.left) c.in-Err.e honest c.in-Err.ensures.any_moment c.in-Err.ensures.err;
}
