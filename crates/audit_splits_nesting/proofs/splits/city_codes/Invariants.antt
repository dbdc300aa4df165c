use Rattle.audit_splits_nesting.specs.Splits.{AreCodesBelow}
use Rattle.audit_splits_nesting.proofs.splits.city_codes.Given as goal

abbrev pub invariant-loop-block : goal.invariant-loop-block
invariant-loop-block l = AreCodesBelow l.blocks l.block-index l.codes
