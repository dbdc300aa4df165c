use Rattle.{std.proofs.Common.{arith, rules}, audit_contiguity.proofs.Rooting.{both_roots, joined_low, joined_high, joined_same}}
use Rattle.audit_contiguity.proofs.forest.join.Goals as goal

pub returns-then-one_root-other_root : goal.returns-then-one_root-other_root
returns-then-one_root-other_root c = record {
  down = search rules;
  rooting = λ root was. let at = both_roots _ _ _ _ _ _ _ c.root_of-one_root.ensures c.root_of-other_root.ensures root was in
      joined_low root _ c.args.one c.args.other c.root_of-one_root.result c.root_of-other_root.result (omega arith) (omega arith) at.0 at.1 at.2 (omega arith) (omega arith);
}

pub returns-then-other_root-one_root : goal.returns-then-other_root-one_root
returns-then-other_root-one_root c = record {
  down = search rules;
  rooting = λ root was. let at = both_roots _ _ _ _ _ _ _ c.root_of-one_root.ensures c.root_of-other_root.ensures root was in
      joined_high root _ c.args.one c.args.other c.root_of-other_root.result c.root_of-one_root.result (omega arith) (omega arith) at.0 at.1 at.2 (omega arith) (omega arith);
}

pub returns-else-other_root-one_root : goal.returns-else-other_root-one_root
returns-else-other_root-one_root c = record {
  down = search rules;
  rooting = λ root was. let at = both_roots _ _ _ _ _ _ _ c.root_of-one_root.ensures c.root_of-other_root.ensures root was in
      joined_same root _ _ _ (omega (arith, at.1, at.2)) at.0;
}
