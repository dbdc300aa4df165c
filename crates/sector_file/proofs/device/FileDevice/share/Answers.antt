use Rattle.{std.proofs.Common.{◌∙◌, ap}, sector_file.{specs.Told.{replay, replay_on, after_sharing}, proofs.Readers.reader_is}}
use Rattle.sector_file.proofs.device.FileDevice.share.Goals as goal

pub returns-in-Ok-clause-reader : goal.returns-in-Ok-clause-reader
returns-in-Ok-clause-reader g c =
    let sector = g.S.Contents.sector in
    let was = c.args.self.now in
    let reader = c.new.result in
    let is = ap (replay_on sector (after_sharing sector reader.count)) c.new.ensures.calls ∙ ap (after_sharing sector) c.new.ensures.count in
    reader_is sector (replay sector was.log.calls) was.few was.count (was.as_opened c.if-self.false).0 (replay_on sector (after_sharing sector reader.count) reader.log.calls) reader.few is
