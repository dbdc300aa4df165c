use Rattle.{std.{specs.{List.flat_map, Prelude.codes}, proofs.Common.{List, ℕ, map, take, sym, ap, ◌∙◌, rules}}, http_wire.specs.claim.{Connection.{parts, ends_in}, Prefix.values}}
use Rattle.{http_wire.{specs.claim.Target.is_word, proofs.{ConnectionLemmas.ends_last, FieldLemmas.{values-more, with_value, without_value}}}, httparse.specs.Spans.header_bytes}
use Rattle.http_wire.proofs.head.ends_chunked.Goals.{then-is_named, else-is_named}
use Rattle.http_wire.proofs.head.ends_chunked.Goals as goal

pub loop-h-preserved : goal.loop-h-preserved
loop-h-preserved c =
    let word = codes "transfer-encoding" in
    let grown = values-more word c.args.buf.now c.args.headers.now c.loop-h.h-index _ c.loop-h-test.true in
    let before = values word (map (header_bytes c.args.buf.now) (take c.loop-h.h-index c.args.headers.now)) in
    elim c.if-is_named.branch [
      | then-is_named w ↦
          let more = with_value _ _ _ _ grown (sym (c.is_named.ensures ∙ ap (is_word word) c.of.ensures) ∙ w.if-is_named.true) in
          w.ends-is ∙ w.ends_in_chunked-ends.ensures ∙ ap (λ (v : List ℕ). ends_in (codes "chunked") (parts v)) w.of-then-is_named.ensures ∙ sym (ends_last before _)
          ∙ ap (λ (vs : List (List ℕ)). ends_in (codes "chunked") (flat_map parts vs)) (sym more)
      | else-is_named w ↦ search (rules, c.is_named.ensures, c.of.ensures, c.loop-h.invariant, without_value)
    ]
