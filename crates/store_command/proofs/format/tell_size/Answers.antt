use Rattle.std.proofs.Common.{arith}
use Rattle.store_command.proofs.format.tell_size.Goals as goal

pub returns-clause-told : goal.returns-clause-told
returns-clause-told g c = record {
  large = λ _. rw (c.as_slice.ensures.value, c.in_ok-line.ensures) at c.send_line.ensures;
  small = λ little. absurd (omega (arith, c.if-sectors-lt-LARGE.false, little));
}
