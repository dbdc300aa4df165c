use Rattle.std.proofs.{Common.{◌==◌, length, sym, arith}, lemmas.List.Sums.position_or_len_is}
use Rattle.http_desk_routes.proofs.route.place_of.Goals as goal

pub returns-clause-place : goal.returns-clause-place
returns-clause-place c =
    sym (position_or_len_is (λ b. b == c.args.byte) c.args.bytes.now (length c.args.bytes.now) 0 (omega arith) (λ k under. c.loop-i.invariant k (omega arith)) (λ within. absurd (omega arith)))
