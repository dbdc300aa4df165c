use Rattle.sector_device.proofs.Moments.{on_ok}
use Rattle.file_commands.proofs.premises.new_store_is_read.Goals as goal

pub returns : goal.returns
returns g c = λ honest.
    (let disk = g.D.SectorDevice.disk c.format.new.device in
    on_ok c.format.result (λ opens. opens disk.reads disk.as_read) (c.format.ensures.new honest))
