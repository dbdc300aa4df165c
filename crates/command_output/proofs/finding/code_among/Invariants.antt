use Rattle.{std.proofs.Common.{◌≡◌, drop, map}, command_output.specs.{Codes.code_among, Tables.row_words}}
use Rattle.command_output.proofs.finding.code_among.Given as goal

abbrev pub invariant-loop-row : goal.invariant-loop-row
invariant-loop-row l = code_among l.word (map row_words (drop l.row-index l.table)) ≡ code_among l.word (map row_words l.table)
