use Rattle.{std.proofs.Common.{◌++◌, ◌/◌, ◌%◌, length, drop, ap, subst, sym, ◌∙◌, arith}, desk_store_lists.{specs.Pieces.{joined, AreFull}, proofs.Cut.{ends_within, to_its_end}}}
use Rattle.desk_store_lists.proofs.districts.Districts.same_until.Goals as goal

pub overflow_mul-result : goal.overflow_mul-result
overflow_mul-result c =
    let within = ends_within c.self.inside.full.items c.self.inside.rest c.self.inside.count (c.args.place / 512) c.self.invariant
    (omega (arith, c.if-at-full.true, ap length c.as_slice-full.ensures.value)) in
    omega arith

pub returns-then-is_alike-clause-same : goal.returns-then-is_alike-clause-same
returns-then-is_alike-clause-same c =
    to_its_end c.as_slice-full.result.now c.self.inside.rest c.args.self.now c.args.place
    (subst AreFull (sym c.as_slice-full.ensures.value) c.self.invariant.are_full) (ap (λ ps. joined ps ++ c.self.inside.rest) c.as_slice-full.ensures.value ∙ c.self.view_is)
    c.index-full-at.result c.if-at-full.true c.index-full-at.is
    ∙ ap (drop (c.args.place % 512)) (c.is_alike.ensures c.if-is_alike.true)
    ∙ sym (to_its_end c.as_slice-others.result.now c.other.inside.rest c.args.other.now c.args.place
    (subst AreFull (sym c.as_slice-others.ensures.value) c.other.invariant.are_full) (ap (λ ps. joined ps ++ c.other.inside.rest) c.as_slice-others.ensures.value ∙ c.other.view_is)
    c.index-others-at.result c.if-at-others.true c.index-others-at.is)
