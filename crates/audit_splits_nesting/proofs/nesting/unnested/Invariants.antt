use Rattle.audit_splits_nesting.{specs.Marks.IsUnnestedAt, proofs.Meaning.AreListed}
use Rattle.audit_splits_nesting.proofs.nesting.unnested.Given as goal

abbrev pub invariant-loop-d : goal.invariant-loop-d
invariant-loop-d l = AreListed (IsUnnestedAt l.marks) l.d l.districts.items
