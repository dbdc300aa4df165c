use Rattle.std.proofs.Common.{append_assoc}
use Rattle.inspect_command.proofs.texts.push_store.Goals as goal

pub returns : goal.returns
returns c = simp (c.in_ok-push_number-4.ensures, c.in_ok-push_number-3.ensures, c.in_ok-push_number-2.ensures, c.in_ok-push_number.ensures, append_assoc)
