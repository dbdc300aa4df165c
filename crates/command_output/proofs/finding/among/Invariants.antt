use Rattle.{std.proofs.Common.{◌≡◌, drop, map}, command_output.specs.{Lines.row_for, Tables.row_words}}
use Rattle.command_output.proofs.finding.among.Given as goal

abbrev pub invariant-loop-row : goal.invariant-loop-row
invariant-loop-row l = row_for l.code l.case (map row_words (drop l.row-index l.table)) ≡ row_for l.code l.case (map row_words l.table)
