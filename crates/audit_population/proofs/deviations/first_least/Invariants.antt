use Rattle.std.{specs.List.IsFirstBest, proofs.Common.nat_lt}
use Rattle.audit_population.proofs.deviations.first_least.Given as goal

abbrev pub invariant-loop-i : goal.invariant-loop-i
invariant-loop-i l = IsFirstBest nat_lt l.populations l.i l.best
