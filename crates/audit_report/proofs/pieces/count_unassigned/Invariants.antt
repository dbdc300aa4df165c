use Rattle.std.proofs.Common.{◌≡◌, ◌≤◌, take, ◌==◌, count_by}
use Rattle.audit_report.proofs.pieces.count_unassigned.Given as goal

abbrev pub invariant-loop-district : goal.invariant-loop-district
invariant-loop-district l = (l.count ≡ count_by (λ d. d == 0) (take l.district-index l.plan)) × (l.count ≤ l.district-index)
