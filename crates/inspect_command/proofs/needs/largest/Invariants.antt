use Rattle.{std.proofs.Common.{◌<◌, ◌≤◌, ℕ, length, get_or}, inspect_command.specs.Needs.no_cut}
use Rattle.inspect_command.proofs.needs.largest.Given as goal

abbrev pub invariant-loop-next : goal.invariant-loop-next
invariant-loop-next l = record {
  there : l.place < length l.ranges;
  first : 0 < l.next;
  most : (k : ℕ) → k < l.next → (get_or l.ranges k no_cut).count ≤ (get_or l.ranges l.place no_cut).count;
}
