use Rattle.std.proofs.Common.{inr}
use Rattle.sector_file.specs.declared.error.FileError.TheVariants as file
use Rattle.file_commands.proofs.stores.refused_again.Goals as goal

pub returns : goal.returns
returns c = inr (file.DeviceFault, c.without_reason.ensures.fault, c.without_reason.ensures.reason)
