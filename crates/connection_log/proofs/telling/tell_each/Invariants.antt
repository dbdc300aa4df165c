use Rattle.{std.proofs.Common.{ℕ, List, Option, drop}, connection_log.specs.{Lines.TellsEach, declared.line.Owed.Owed}}
use Rattle.connection_log.proofs.telling.tell_each.Given as goal

-- what is told of those that are left is, after what was told, told of all
abbrev pub invariant-loop-line : goal.invariant-loop-line
invariant-loop-line g l = (left : Owed) (new : Option (List ℕ))
    → TellsEach l.left (drop l.line-index l.lines) left (g.W.Sink.contents l.writer) new → TellsEach l.fn.dropped l.lines left (g.W.Sink.contents l.fn.writer) new
