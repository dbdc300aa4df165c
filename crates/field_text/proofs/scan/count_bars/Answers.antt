use Rattle.std.{specs.List.count_by, proofs.{Common.{◌≡◌, ◌+◌, ◌-◌, take, eqb, arith, length-take, rules}, Math.Seq.take-add, lemmas.List.take_rest}}
use Rattle.std.proofs.lemmas.List.Sums.{sum_by-append, sum_by-take-drop, count_by-le-length}
use Rattle.field_text.proofs.scan.count_bars.Goals as goal

pub loop-at-preserved : goal.loop-at-preserved
loop-at-preserved c =
    let seen = take (c.loop-at.at + 240) c.args.line.now in
    let block : c.loop-at.at + 240 - c.loop-at.at ≡ 240 = omega arith in
    let more : c.loop-at.bars + c.block_bars.result ≡ count_by (λ b. eqb b 124) seen =
    search (rules, block, c.loop-at.invariant.bars, c.block_bars.ensures, take-add, sum_by-append) in
    record { within = omega arith; bars = more; few = omega (arith, more, count_by-le-length (λ b. eqb b 124) seen, length-take (c.loop-at.at + 240) c.args.line.now) }

pub returns : goal.returns
returns c = search (rules, c.loop-at.invariant.bars, c.block_bars-2.ensures, take_rest, sum_by-take-drop)
