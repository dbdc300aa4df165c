use Rattle.{std.proofs.{Common.{◌≡◌, false, sym, ◌∙◌, arith}, lemmas.List.Elements.All-more}, byte_stream.specs.claim.Words.is_separator}
use Rattle.byte_stream.proofs.words.bytes_before.Goals as goal

pub loop-i-preserved : goal.loop-i-preserved
loop-i-preserved c =
    All-more (λ b. is_separator b ≡ false) c.args.text.now c.loop-i.i 0 (omega arith) c.loop-i.invariant (sym c.is_separator.ensures ∙ c.if-is_separator.false)
