use Rattle.{std.proofs.{Common.{◌<◌, ◌^◌, arith, rules}, lemmas.{Fmt.length-decimal-le, Slice.take-put_mid_below}}, desk_model.specs.claim.Padded.padded_decimal}
use Rattle.baf_text.proofs.Printing.{zeros_below, length-padded, width_of}
use Rattle.baf_text.proofs.writing.write_code.Goals as goal

pub returns-then-district-gt0-clause-start : goal.returns-then-district-gt0-clause-start
returns-then-district-gt0-clause-start c =
    let small : c.args.district < 2 ^ 16 = omega arith in
    let width = width_of c.write_padded.new.row c.args.row.now (padded_decimal c.code_digits.result c.args.district) c.write_padded.result c.args.end
    c.write_padded.ensures.start c.requires.room.1 c.write_padded.auto.row c.write_padded.ensures.written in (
      c.write_padded.ensures.start,
      omega (
        arith,
        width,
        length-padded c.code_digits.result c.args.district,
        c.code_digits.ensures.few,
        length-decimal-le 5 c.args.district (omega arith) (omega arith) (omega arith),
      ),
    )

pub returns-clause-zeros : goal.returns-clause-zeros
returns-clause-zeros c = search (rules, c.requires.room.1, c.requires.zeros, take-put_mid_below, zeros_below)
