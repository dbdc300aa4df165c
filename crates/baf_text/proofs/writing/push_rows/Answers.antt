use Rattle.{std.proofs.Common.{arith, append-nil, refl, sym, rules}, baf_text.proofs.Printing.{text_more, text_whole}}
use Rattle.baf_text.proofs.writing.push_rows.Goals as goal

pub loop-place-init : goal.loop-place-init
loop-place-init g c = (sym (append-nil c.args.text.now.items), refl)

pub loop-place-preserved : goal.loop-place-preserved
loop-place-preserved g c = search (rules, c.requires, c.loop-place.invariant.0, c.in_ok-push_row.ensures.pushed, c.loop-place.invariant.1, c.push_row.ensures.same, text_more)

pub returns : goal.returns
returns g c = text_whole c.args.line.now.0 c.args.blocks.now c.args.assignment.now c.args.text.now.items c.loop-place.text.items c.loop-place.place (omega arith) c.loop-place.invariant.0
