use Rattle.{std.proofs.Common.{◌≡◌, filter}, audit_population.specs.claim.{Clauses.deviates, People.districts}}
use Rattle.audit_population.proofs.deviations.congress_breaks.Given as goal

abbrev pub invariant-loop-i : goal.invariant-loop-i
invariant-loop-i l = l.breaks.items ≡ filter (deviates l.populations l.fn.total) (districts l.i)
