use Rattle.{std.proofs.Common.{◌≡◌, ◌<◌, ◌^◌, List, Option, ℕ, IfSome, sym, map, sum_by, arith, ap, ◌∙◌, subst, IsPermutation}, desk_model.specs.declared.block.BlockRow.BlockRow}
use Rattle.pl94_segment.{specs.claim.Join.{rows_of, row_of, total_people}, proofs.JoinLemmas.are_blocks}
use Rattle.pl94_segment.proofs.join.join.Goals as goal
use Rattle.pl94_segment.proofs.join.join.Goals.{in-Some-state_people+else-state-total, in_default-state_people}

pub returns : goal.returns
returns c =
    let rows_are : c.in-Ok.rows.items ≡ rows_of c.args.geo.now c.args.first.now = c.in-Ok.ensures ∙ ap (map (row_of c.args.first.now)) c.as_slice.ensures.value in
    let total_is : c.total_of-total.result ≡ total_people c.args.geo.now c.args.first.now =
    c.total_of-total.ensures ∙ ap (sum_by (λ (b : BlockRow). b.population)) (c.as_slice-2.ensures.value ∙ rows_are) in
    let same : IsPermutation (rows_of c.args.geo.now c.args.first.now) c.sort_rows.new.rows.items = subst (λ (xs : List BlockRow). IsPermutation xs c.sort_rows.new.rows.items) rows_are c.sort_rows.ensures.same in
    let few : total_people c.args.geo.now c.args.first.now < 2 ^ 32 = omega (arith, total_is) in
    let agrees = λ (o : Option ℕ). IfSome o (λ s. s ≡ total_people c.args.geo.now c.args.first.now) in
    record {
      none_missing = rw c.in_default.is at c.least_missing.ensures;
      state = subst agrees c.state_people.ensures (elim c.match-state_people.branch [
        | in-Some-state_people+else-state-total w ↦ subst agrees (sym w.in-Some-state_people.is) (w.if-state-total.false ∙ total_is)
        | in_default-state_people w ↦ subst agrees (sym w.in_default-state_people.is) tt
      ]);
      same = same;
      blocks = are_blocks c.args.geo.now c.args.first.now c.sort_rows.new.rows.items c.requires same c.sort_rows.ensures.sorted few;
    }
