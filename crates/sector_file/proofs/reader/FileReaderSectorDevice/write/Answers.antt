use Rattle.{std.proofs.Common.rules, sector_file.proofs.{Readers.{reader_long, failed_more, failed_touches}, Runs.held_still}}
use Rattle.sector_file.proofs.reader.FileReaderSectorDevice.write.Goals as goal

pub invariant_of-self : goal.invariant_of-self
invariant_of-self g c = search (rules, reader_long, failed_more, held_still)

pub returns-clause-sectors : goal.returns-clause-sectors
returns-clause-sectors g c = search reader_long

pub returns-clause-model : goal.returns-clause-model
returns-clause-model g c = λ honest. search (rules, failed_more, failed_touches)
