use Rattle.{std.proofs.Common.codes, command_output.{specs.{Sentences.{words_of, carries_text, case_text}, Tables.told}, proofs.Parts.seven_parts}}
use Rattle.command_output.proofs.explanation.put_entry.Goals as goal

pub returns : goal.returns
returns c =
    rw (c.in_ok-put_words.ensures, c.in_ok-extend_from_slice-4.ensures.items, c.in_ok-put_case.ensures, c.in_ok-extend_from_slice-3.ensures.items, c.in_ok-extend_from_slice-2.ensures.items, c.in_ok-put_carries.ensures, c.in_ok-extend_from_slice.ensures.items, c.as_bytes.ensures.value, c.as_bytes-2.ensures.value, c.as_bytes-3.ensures.value, c.as_bytes-4.ensures.value)
    (seven_parts c.args.text.now.items c.args.words.code.now (carries_text c.args.words.carries.now) (codes ", ") c.args.place.now (case_text c.args.words.case.now) (codes ": ") (words_of (told c.args.words)))
