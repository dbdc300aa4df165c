use Rattle.{std.proofs.Common.{sym, ap, ◌∙◌, length-append, rules}, http_wire.specs.claim.Target.is_word}
use Rattle.http_wire.proofs.FieldLemmas.{values-more, with_value, without_value, first_stays, first_comes}
use Rattle.http_wire.proofs.head.find_value.Goals.{then-is_named, then-count-eq0, else-count-eq0, else-is_named}
use Rattle.http_wire.proofs.head.find_value.Goals as goal

pub loop-h-preserved : goal.loop-h-preserved
loop-h-preserved c =
    let grown = values-more c.args.word.now c.args.buf.now c.args.headers.now c.loop-h.h-index _ c.loop-h-test.true in
    let before = c.loop-h.invariant in
    elim c.if-is_named.branch [
      | then-is_named w ↦
          let more = with_value _ _ _ _ grown (sym (c.is_named.ensures ∙ ap (is_word c.args.word.now) c.of.ensures) ∙ w.if-is_named.true) in
          elim w.if-count-eq0.branch [
            | then-count-eq0 w' ↦
                rw (w.count-is, more, w.first-is, w'.first-is, w'.of-first.ensures) (search (rules, before, length-append, first_comes))
            | else-count-eq0 w' ↦ rw (w.count-is, more, w.first-is, w'.first-is) (search (rules, before, length-append, first_stays))
          ]
      | else-is_named w ↦ search (rules, c.is_named.ensures, c.of.ensures, without_value)
    ]
