use Rattle.std.proofs.{Common.{◌==◌, length, sym, arith, rules}, lemmas.List.Sums.position_or_len_is}
use Rattle.http_wire.proofs.lists.comma_at.Goals as goal

pub returns-then-b-eq44-clause-place : goal.returns-then-b-eq44-clause-place
returns-then-b-eq44-clause-place c = search (rules, c.loop-i.invariant, position_or_len_is)

pub returns-clause-place : goal.returns-clause-place
returns-clause-place c =
    sym (position_or_len_is (λ b. b == 44) c.args.bytes.now (length c.args.bytes.now) 0 (omega arith) (λ k under. c.loop-i.invariant k (omega arith)) (λ within. absurd (omega arith)))
