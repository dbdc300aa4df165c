use Rattle.{std.proofs.Common.rules, sector_file.proofs.{Readers.reader_long, Runs.{all_written, held_new, run_read, run_reads, run_touches}}}
use Rattle.sector_file.proofs.reader.FileReader.read_ahead.Goals as goal

pub invariant_of-self-2 : goal.invariant_of-self-2
invariant_of-self-2 g c = search (rules, run_reads, reader_long, run_read, held_new, all_written)

pub returns-clause-moves : goal.returns-clause-moves
returns-clause-moves g c = λ honest. search (rules, run_read, run_touches)
