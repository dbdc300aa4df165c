use Rattle.{std.{specs.List.flat_map, proofs.Common.{◌≡◌, ◌++◌, take}}, check_command.specs.Counts.county_line}
use Rattle.check_command.proofs.counts.print_counts.Given as goal

abbrev pub invariant-loop-county : goal.invariant-loop-county
invariant-loop-county l = l.text.items ≡ l.initial.text.items ++ flat_map county_line (take l.county-index l.county-items)
