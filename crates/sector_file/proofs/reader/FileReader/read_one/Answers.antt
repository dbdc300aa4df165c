use Rattle.{std.proofs.Common.{arith, rules}, sector_file.proofs.{Disks.{read_is, fault_is}, Readers.{reader_long, same_on, whole_more, short_more}, Steps.bytes_same}}
use Rattle.sector_file.proofs.Runs.{held_still, honest_before_read}
use Rattle.sector_file.proofs.reader.FileReader.read_one.Goals as goal

pub invariant_of-self : goal.invariant_of-self
invariant_of-self g c = search (rules, reader_long, held_still, same_on, honest_before_read)

pub returns-then-got-eq-SECTOR_SIZE-clause-model : goal.returns-then-got-eq-SECTOR_SIZE-clause-model
returns-then-got-eq-SECTOR_SIZE-clause-model g c = λ honest. search (rules, whole_more, read_is)

pub returns-then-got-eq-SECTOR_SIZE-clause-reads : goal.returns-then-got-eq-SECTOR_SIZE-clause-reads
returns-then-got-eq-SECTOR_SIZE-clause-reads g c = λ honest. search (rules, whole_more, bytes_same)

pub returns-else-got-eq-SECTOR_SIZE-clause-model : goal.returns-else-got-eq-SECTOR_SIZE-clause-model
returns-else-got-eq-SECTOR_SIZE-clause-model g c = λ honest. search (arith, short_more, fault_is)
