use Rattle.std.{specs.Fmt.decimal, proofs.{Common.{rules, ◌≡◌, ℕ, ◌+◌, ◌-◌, ◌≤◌, List, ◌++◌, length, drop, ap, arith, length-append, length-drop}, lemmas.Fmt.length-decimal-le}}
use Rattle.{std.proofs.lemmas.List.length-replicate, desk_model.specs.claim.Padded.padded_decimal}
use Rattle.desk_store_catalogue.proofs.blocks.write_number.Goals as goal

length-padded : (width n : ℕ) → length (padded_decimal width n) ≡ (width - length (decimal n)) + length (decimal n)
length-padded width n = search (length-append, length-replicate)

-- where so many bytes stand before the rest of a row
width_of : (row old text : List ℕ) (start end : ℕ) → start ≤ end → end ≤ length old → length row ≡ length old → drop start row ≡ text ++ drop end old → end ≡ start + length text
width_of row old text start end le within same written =
    omega (arith, ap length written, length-drop start row, length-drop end old, length-append text (drop end old))

pub returns : goal.returns
returns c =
    let width = width_of c.write_padded.new.row c.args.row.now (padded_decimal c.args.width c.args.number) c.write_padded.result c.args.end
    c.write_padded.ensures.start c.requires.room.within c.write_padded.auto.row c.write_padded.ensures.written in record {
      before = c.write_padded.ensures.start;
      few = omega (arith, width, length-padded c.args.width c.args.number, length-decimal-le 10 c.args.number (omega arith) (omega arith) (omega arith));
      written = c.write_padded.ensures.written;
      zeros = search rules;
    }
