use Rattle.{std.proofs.Common.{◌≡◌, ◌≤◌, ◌*◌, ◌^◌, take, sum_by}, desk_model.specs.declared.reply.PlanRow.PlanRow}
use Rattle.inspect_command.proofs.figures.count_revisions.Given as goal

abbrev pub invariant-loop-line : goal.invariant-loop-line
invariant-loop-line l = record {
  sum : l.revisions ≡ sum_by (λ (line : PlanRow). line.revisions) (take l.line-index l.lines);
  few : l.revisions ≤ l.line-index * 2 ^ 32;
}
