use Rattle.{std.proofs.Common.{◌≡◌, length, take, sum_by}, desk_model.specs.declared.block.BlockRow.BlockRow, audit_population.proofs.Counted.AreCounted}
use Rattle.audit_population.proofs.people.count_people.Given as goal

abbrev pub invariant-loop-i : goal.invariant-loop-i
invariant-loop-i l = record {
  districts : AreCounted l.blocks l.plan l.i (length l.initial.people) l.people;
  state : l.state ≡ sum_by (λ (b : BlockRow). b.population) (take l.i l.blocks);
}
