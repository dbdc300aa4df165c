use Rattle.{std.proofs.Common.{◌≡◌, ◌≤◌, ◌*◌, ◌^◌, take, length, sum_by}, audit_population.specs.claim.Clauses.deviation}
use Rattle.audit_population.proofs.deviations.mean_breaks.Given as goal

abbrev pub invariant-loop-people : goal.invariant-loop-people
invariant-loop-people l = (l.sum ≡ sum_by (deviation (length l.populations) l.fn.total) (take l.people-index l.populations)) × (l.sum ≤ l.people-index * (999 * 2 ^ 32))
