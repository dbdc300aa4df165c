use Rattle.{std.proofs.Common.{sym, ◌∙◌, is_some, rules}, pl94_geo.proofs.HoldingLemmas.none_from_test, pl94_segment.proofs.SegLemmas.{holds_more, repeated}}
use Rattle.pl94_segment.proofs.segment.SegRows.take.Goals as goal

pub returns-then-is_some : goal.returns-then-is_some
returns-then-is_some c = search (rules, c.people.ensures, c.is_some.ensures, c.if-is_some.true, repeated, is_some)

pub returns-in-Ok : goal.returns-in-Ok
returns-in-Ok c = λ rs holds.
    let none = sym c.people.ensures ∙ none_from_test c.people.result (sym c.is_some.ensures ∙ c.if-is_some.false) in
    holds_more c.args.self.now c.put.new.self rs c.args.row holds none (c.in-Ok.ensures none)
