use Rattle.std.{specs.List.IsFirstBest, proofs.Common.nat_lt}
use Rattle.audit_population.proofs.deviations.first_most.Given as goal

abbrev pub invariant-loop-i : goal.invariant-loop-i
invariant-loop-i l = IsFirstBest (λ a b. nat_lt b a) l.populations l.i l.best
