use Rattle.{std.proofs.{Common.{length-drop, rules}, lemmas.List.{take_all, length-replicate}}, baf_text.proofs.Ends.length_row}
use Rattle.baf_text.proofs.writing.Line.new.Goals as goal

pub copy_from_slice-requires : goal.copy_from_slice-requires
copy_from_slice-requires g c =
    search (rules, c.row_of-start.ensures.long, c.row_of-start.ensures.written, c.requires.listed, c.requires.long, c.row_of-start.ensures.start, length_row, length-replicate, take_all, length-drop)
