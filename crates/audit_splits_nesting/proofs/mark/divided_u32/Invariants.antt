use Rattle.audit_splits_nesting.{specs.Marks.IsDividedAt, proofs.Meaning.AreListed}
use Rattle.audit_splits_nesting.proofs.mark.divided_u32.Given as goal

abbrev pub invariant-loop-k : goal.invariant-loop-k
invariant-loop-k l = AreListed (IsDividedAt l.marks) l.k l.codes.items
