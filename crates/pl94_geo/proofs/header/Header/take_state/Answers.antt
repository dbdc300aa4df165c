use Rattle.{std.proofs.Common.{refl, sym, ◌∙◌}, pl94_geo.proofs.HoldingLemmas.{holds_state, none_from_test}}
use Rattle.pl94_geo.proofs.header.Header.take_state.Goals as goal

pub returns : goal.returns
returns c = λ es holds same.
    holds_state c.args.self.now _ es c.args.entry holds c.requires.valid c.requires.kind same (none_from_test _ (sym c.is_some.ensures ∙ c.if-is_some.false))
    c.in_ok-add.ensures.0 c.in_ok-add.ensures.1 refl refl refl refl
