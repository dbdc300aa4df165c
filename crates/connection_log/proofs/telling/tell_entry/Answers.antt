use Rattle.std.proofs.Common.{rules, Ok, Err, refl}
use Rattle.connection_log.proofs.telling.tell_entry.Goals as goal

pub returns-in-Ok : goal.returns-in-Ok
returns-in-Ok g c = record {
  sent = Ok tt;
  text = rw (c.as_slice.ensures, c.put_entry.ensures, c.put_dropped.ensures.items, c.moment.ensures) at c.in-Ok.ensures.bytes;
  drops = refl;
}

pub returns-in-Err : goal.returns-in-Err
returns-in-Err g c = record {
  sent = Err c.in-Err.field-0;
  text = rw (c.as_slice.ensures, c.put_entry.ensures, c.put_dropped.ensures.items, c.moment.ensures) at c.in-Err.ensures.bytes;
  drops = search rules;
}
