use Rattle.{std.proofs.Common.codes, command_output.proofs.Parts.four_parts}
use Rattle.command_output.proofs.explanation.put_words.Goals as goal

pub returns : goal.returns
returns c =
    rw (c.in_ok-extend_from_slice-4.ensures.items, c.in_ok-extend_from_slice-3.ensures.items, c.in_ok-extend_from_slice-2.ensures.items, c.in_ok-extend_from_slice.ensures.items, c.as_bytes.ensures.value, c.as_bytes-2.ensures.value)
    (four_parts c.args.text.now.items c.args.words.means.now (codes " What to do: ") c.args.words.remedy.now (codes "\n"))
