use Rattle.{std.proofs.Common.arith, sector_device.{specs.claim.Disk.Nowhere, proofs.Moments.touches_more}, sector_file.proofs.Runs.cause_from}
use Rattle.sector_file.proofs.reader.FileReaderSectorDevice.read.Goals as goal

pub returns-then-not-read_ahead-clause-model : goal.returns-then-not-read_ahead-clause-model
returns-then-not-read_ahead-clause-model g c = λ honest.
    let told = c.read_one-then-not-read_ahead.ensures.model honest in
    search (arith, touches_more Nowhere Nowhere, c.read_ahead.ensures.moves told.0.was_honest, told, cause_from)
