use Rattle.{std.proofs.Common.refl, sector_device.{specs.claim.Disk.Nowhere, proofs.Moments.touches_none}, sector_file.{specs.Device.reader_disk, proofs.Readers.reader_synced}}
use Rattle.sector_file.proofs.reader.FileReaderSectorDevice.sync.Goals as goal

pub returns-clause-sectors : goal.returns-clause-sectors
returns-clause-sectors g c = refl

pub returns-clause-model : goal.returns-clause-model
returns-clause-model g c = λ honest. (touches_none Nowhere (reader_disk c.args.self.now) honest, record { failed = tt; passed = refl })

pub returns-clause-synced : goal.returns-clause-synced
returns-clause-synced g c = λ honest. reader_synced g.S.Contents.sector c.args.self.now.count c.args.self.now.log.calls c.args.self.now.reading c.args.self.now.few
