use Rattle.{std.proofs.{Common.{◌≡◌, ◌<◌, length, get_or, arith, sym, ◌∙◌, refl}, lemmas.List.get_or_default}, desk_model.specs.declared.geography.Pair.Pair}
use Rattle.audit_contiguity.proofs.Growth.{forest_skip, forest_join}
use Rattle.audit_contiguity.proofs.forest.join_pairs.Goals as goal
use Rattle.audit_contiguity.proofs.forest.join_pairs.Goals.{then-first-district+then-district-last+then-district-plan, else-first-district, else-first-district-via-then-first-district+then-district-last+else-district-plan, else-first-district-via-then-first-district+else-district-last, else-first-district-via-else-first-district}

pub loop-pair-preserved : goal.loop-pair-preserved
loop-pair-preserved c =
    let pairs = c.args.pairs.now in
    let count = c.loop-pair.pair-index in
    let none : Pair = record { first = 0; second = 0 } in
    let pair = get_or pairs count none in
    let less : count < length pairs = omega arith in
    let is : pair ≡ get_or pairs count pair = get_or_default pairs count none pair less in
    let valid = c.requires.placed.within count none less in
    elim c.if-first-district.branch [
      | then-first-district+then-district-last+then-district-plan w ↦
          rw w.parents-is (forest_join pair less is c.loop-pair.invariant w.join.new.parents (get_or c.args.plan.now pair.first 0)
          (record { within = valid.first; given = refl }) (record { within = valid.second; given = sym w.if-district-plan.true }) (omega arith) w.join.ensures.down w.join.ensures.rooting)
      | else-first-district w ↦ rw w.parents-is (forest_skip pair less is c.loop-pair.invariant (λ d from to one other. elim w.else-first-district.branch [
        | else-first-district-via-then-first-district+then-district-last+else-district-plan w' ↦ w'.if-district-plan.false (one.given ∙ sym other.given)
        | else-first-district-via-then-first-district+else-district-last w' ↦ omega (arith, w'.if-district-last.false, one.given)
        | else-first-district-via-else-first-district w' ↦ omega (arith, w'.if-first-district.false, one.given)
      ]))
    ]
