use Rattle.{std.proofs.Common.{◌≡◌, ◌*◌, ◌+◌, get_or, arith, rules, below_more}, store_verification_rows.specs.Strays.HasPiece}
use Rattle.store_verification_rows.proofs.namings.is_at.Goals as goal

pub returns-then-is_this : goal.returns-then-is_this
returns-then-is_this c = record {
  yes = λ _. let is = c.is_this.ensures.yes c.if-is_this.true in record { place = c.loop-place.place; within = omega arith; is = is.0; piece_is = is.1 };
  no = search rules;
}

pub loop-place-preserved : goal.loop-place-preserved
loop-place-preserved c = below_more (λ i. get_or c.args.numbers.now i 0 ≡ c.args.number → HasPiece c.args.ranges.now (128 * c.args.index + i) c.args.piece → ⊥) c.loop-place.place c.loop-place.invariant
    (c.is_this.ensures.no c.if-is_this.false)

pub returns : goal.returns
returns c = record { yes = search rules; no = λ _ at. c.loop-place.invariant at.place (omega arith) at.is at.piece_is }
