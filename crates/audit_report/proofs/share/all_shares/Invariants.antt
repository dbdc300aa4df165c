use Rattle.std.proofs.Common.{◌≡◌, Ok, map}
use Rattle.audit_report.proofs.share.all_shares.Given as goal

abbrev pub invariant-loop-result : goal.invariant-loop-result
invariant-loop-result l = map Ok l.shares.items ≡ l.yielded
