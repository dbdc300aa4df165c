use Rattle.{std.proofs.Common.{◌++◌, ap, subst, sym, ◌∙◌}, desk_store_lists.{specs.Pieces.{joined, AreFull}, proofs.Cut.{at_in_full, at_in_rest}}}
use Rattle.desk_store_lists.proofs.districts.Districts.at.Goals as goal

pub returns-then-at-full : goal.returns-then-at-full
returns-then-at-full c =
    c.at.ensures ∙ at_in_full c.as_slice-full.result.now c.self.inside.rest c.args.self.now c.args.place (subst AreFull (sym c.as_slice-full.ensures.value) c.self.invariant.are_full)
    (ap (λ ps. joined ps ++ c.self.inside.rest) c.as_slice-full.ensures.value ∙ c.self.view_is) c.index-full-at.result c.if-at-full.true c.index-full-at.is

pub returns : goal.returns
returns c =
    c.at-2.ensures ∙ at_in_rest c.as_slice-full.result.now c.self.inside.rest c.args.self.now c.args.place (subst AreFull (sym c.as_slice-full.ensures.value) c.self.invariant.are_full)
    (ap (λ ps. joined ps ++ c.self.inside.rest) c.as_slice-full.ensures.value ∙ c.self.view_is) c.if-at-full.false
