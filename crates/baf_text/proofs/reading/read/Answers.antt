use Rattle.{std.{specs.Str.Lines.lines, proofs.Common.{◌+◌, rules, ap, ◌∙◌}}, desk_model.specs.claim.Baf.rows_read, baf_text.proofs.{Taken.fault_told, Values.listed_none}}
use Rattle.baf_text.proofs.reading.read.Goals as goal

pub loop-said-init : goal.loop-said-init
loop-said-init c = search (rules, listed_none)

pub returns-in_err-likely-clause-fault : goal.returns-in_err-likely-clause-fault
returns-in_err-likely-clause-fault c =
    let way = c.loop-said.invariant.way in
    let first = c.in-Some-next_row.ensures in
    let told =
    fault_told c.args.geography.now c.args.n c.args.bytes.now (c.loop-said.number + 1) way.so_far first.line (lines c.in-Some-next_row.after.now) c.in_err-likely.field-0.0
    c.take_line.new.listed (way.rest ∙ ap (rows_read c.args.geography.now c.args.n (c.loop-said.number + 1) way.so_far) first.cut)
    (c.in_err-likely.ensures.taken way.so_far first.line way.lists first.says)
    in
    search rules
