use Rattle.desk_theorem_lives.specs.VersionInside.{StepsOn}
use Rattle.desk_theorem_lives.proofs.leading.lead.Given as goal

abbrev pub invariant-loop-made : goal.invariant-loop-made
invariant-loop-made g l = record { on : StepsOn l.fn.migration l.migration }
