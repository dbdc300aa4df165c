use Rattle.{std.proofs.Common.{◌≡◌, ◌++◌, drop, map}, command_output.specs.{Entries.entries_among, Tables.row_words}}
use Rattle.command_output.proofs.finding.put_among.Given as goal

abbrev pub invariant-loop-row : goal.invariant-loop-row
invariant-loop-row l = l.text.items ++ entries_among l.code l.place (map row_words (drop l.row-index l.table)) ≡ l.fn.text.items ++ entries_among l.code l.place (map row_words l.table)
