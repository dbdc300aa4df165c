use Rattle.store_command.proofs.{Read.{shows, refuses}, Unopened.unopened_life}
use Rattle.store_command.proofs.filling.open_clerk.Goals as goal

pub returns-in-Ok-clause-shows : goal.returns-in-Ok-clause-shows
returns-in-Ok-clause-shows g c = search (c.in-Ok.ensures.ok, shows, c.one_desk_opens.ensures)

pub returns-in-Err-clause-err : goal.returns-in-Err-clause-err
returns-in-Err-clause-err g c = record {
  error = c.in-Err.e;
  told = c.store_fault.ensures;
  why = c.in-Err.ensures.err;
  life = unopened_life g.D.SectorDevice c.one_desk_opens.ensures c.args.device c.in-Err.left c.in-Err.e c.in-Err.ensures.err;
  refuses = λ honest. refuses g.D.SectorDevice c.one_desk_opens.ensures c.args.device c.requires c.in-Err.left c.in-Err.e honest c.in-Err.ensures.err.any_moment c.in-Err.ensures.err.any_version c.in-Err.ensures.err.why;
}
