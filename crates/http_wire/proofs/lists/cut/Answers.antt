use Rattle.{std.proofs.{Common.{◌==◌, arith, rules}, lemmas.List.{take_rest, Splits.slice_split_none, Sums.fails_before_first}}, http_wire.proofs.ConnectionLemmas.first_part}
use Rattle.http_wire.proofs.lists.cut.Goals as goal

pub returns-then-end-bytes : goal.returns-then-end-bytes
returns-then-end-bytes c =
    let bytes = c.args.bytes.now in
    slice_split_none (λ b. b == 44) bytes (λ k d inside. fails_before_first (λ b. b == 44) bytes k d (omega (arith, c.comma_at-end.ensures.place, c.if-end-bytes.true, inside)))

pub returns : goal.returns
returns c = search (rules, c.comma_at-end.ensures.place, c.comma_at-end.ensures.within, take_rest, first_part)
