use Rattle.std.proofs.Common.{inr}
use Rattle.sector_file.specs.declared.error.FileError.TheVariants as file
use Rattle.file_commands.proofs.stores.sectors_of.Goals as goal

pub returns-then-is_no_file : goal.returns-then-is_no_file
returns-then-is_no_file c = inr (file.NotPermitted, c.device_fault.ensures.fault, c.device_fault.ensures.reason)

pub returns-then-bytes-ne0 : goal.returns-then-bytes-ne0
returns-then-bytes-ne0 c = inr (file.WrongSize, c.without_reason.ensures.fault, c.without_reason.ensures.reason)
