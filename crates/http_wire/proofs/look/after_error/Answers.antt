use Rattle.{std.proofs.Common.{[], subst, sym, append-nil}, httparse.specs.Grammar.ReadsRequest}
use Rattle.http_wire.proofs.look.after_error.Goals as goal

pub unfinished-requires-clause-none : goal.unfinished-requires-clause-none
unfinished-requires-clause-none c = λ h rest reads. c.requires.never [] h rest (subst (λ xs. ReadsRequest xs h rest) (sym (append-nil c.args.part.now)) reads)
