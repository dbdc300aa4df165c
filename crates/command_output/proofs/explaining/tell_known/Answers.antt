use Rattle.{std.proofs.Common.{Option, Ok, subst, map}, command_output.specs.{Explaining.TellsKnown, Lines.{line_path, named}, Tables.Words, Writing.written_of}}
use Rattle.command_output.proofs.explaining.tell_known.Goals as goal

pub returns-in-Ok : goal.returns-in-Ok
returns-in-Ok g c =
    let before = written_of g.E.Sink.contents g.E.Sink.failures c.args.errors.now in
    let after = written_of g.E.Sink.contents g.E.Sink.failures c.send_line.new.errors in
    let path = line_path c.args.line.now (map named c.args.files.now) in
    subst (λ (words : Option Words). TellsKnown (Ok tt) path words before after) c.in-Some.ensures (rw (c.as_slice.ensures.value, c.in-Ok.ensures, c.path_in.ensures) at c.send_line.ensures)
