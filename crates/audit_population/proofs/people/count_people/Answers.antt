use Rattle.{std.proofs.{Common.{◌+◌, ◌-◌, get_or, take, sum_by, arith, rules}, lemmas.List.{take_all, Sums.sum_by_more}}, desk_model.specs.declared.block.BlockRow.BlockRow}
use Rattle.audit_population.proofs.Counted.{counted_skip, counted_add, counted_all, people_fit}
use Rattle.audit_population.proofs.people.count_people.Goals as goal
use Rattle.audit_population.proofs.people.count_people.Goals.{then-district-ge1+then-district-people, else-district-ge1, else-district-ge1-via-then-district-ge1+else-district-people, else-district-ge1-via-else-district-ge1}

pub overflow_add-people : goal.overflow_add-people
overflow_add-people c = search (rules, c.requires.beside, c.loop-i.invariant.districts.sums, c.requires.blocks.people, people_fit)

pub loop-i-preserved : goal.loop-i-preserved
loop-i-preserved c =
    let place = get_or c.args.plan.now c.loop-i.i 0 - 1 in
    let row = c.index-blocks-i.result in
    let before = sum_by (λ (b : BlockRow). b.population) (take c.loop-i.i c.args.blocks.now) in
    record {
      districts =
          elim c.if-district-ge1.branch [
            | then-district-ge1+then-district-people w ↦
                rw w.people-is (counted_add c.args.blocks.now c.args.plan.now c.loop-i.i c.index-blocks-i.result c.requires.beside (omega arith) c.index-blocks-i.is
                c.loop-i.invariant.districts place (omega arith) (omega arith))
            | else-district-ge1 w ↦
                rw w.people-is (counted_skip c.args.blocks.now c.args.plan.now c.loop-i.i c.index-blocks-i.result c.requires.beside (omega arith) c.index-blocks-i.is
                c.loop-i.invariant.districts (λ k small same. elim w.else-district-ge1.branch [
                  | else-district-ge1-via-then-district-ge1+else-district-people w' ↦ absurd (omega arith)
                  | else-district-ge1-via-else-district-ge1 w' ↦ absurd (omega arith)
                ]))
          ];
      state = search (rules, c.loop-i.invariant.state, sum_by_more);
    }

pub returns : goal.returns
returns c = search (rules, c.requires.beside, c.loop-i.invariant.districts, c.loop-i.invariant.state, counted_all, sum_by, take_all)
