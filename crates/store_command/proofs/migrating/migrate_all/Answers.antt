use Rattle.std.proofs.Common.{inl, inr, refl}
use Rattle.store_command.proofs.migrating.migrate_all.Goals as goal

pub returns-in-Err : goal.returns-in-Err
returns-in-Err g c = inl (c.put_all.ensures.moves, c.in-Err.ensures.puts)

pub returns-in-Ok-finish : goal.returns-in-Ok-finish
returns-in-Ok-finish g c = search (c.in-Ok-finish.ensures, c.in-Ok.ensures.puts)

pub returns-in-Err-finish : goal.returns-in-Err-finish
returns-in-Err-finish g c = inr (
  c.in-Err-finish.e,
  c.store_fault.ensures,
  record {
    y = c.put_all.new.migration;
    moves = c.put_all.ensures.moves;
    rows = c.in-Ok.rows;
    put = c.in-Ok.ensures.puts;
    ends = c.in-Err-finish.ensures.ends;
    stays = c.in-Err-finish.ensures.stays refl;
    why = c.in-Err-finish.ensures.err;
  },
)
