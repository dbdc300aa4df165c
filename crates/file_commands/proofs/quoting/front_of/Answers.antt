use Rattle.std.proofs.{Common.{sym, arith}, lemmas.List.{length-take-le, take_all}}
use Rattle.file_commands.proofs.quoting.front_of.Goals as goal

pub returns-then-line-le-SHOWN : goal.returns-then-line-le-SHOWN
returns-then-line-le-SHOWN c = sym (take_all 60 c.args.line.now (omega arith))

pub slice_bounds-result-end : goal.slice_bounds-result-end
slice_bounds-result-end c = sym (length-take-le 60 c.args.line.now (omega arith))
