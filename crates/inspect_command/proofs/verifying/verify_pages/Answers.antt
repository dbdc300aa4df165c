use Rattle.{inspect_command.proofs.Devices.then_unsound, page_store.proofs.Stops.quiet_more}
use Rattle.inspect_command.proofs.verifying.verify_pages.Goals as goal

pub returns-else-is_halted : goal.returns-else-is_halted
returns-else-is_halted g c = search (quiet_more, c.find_parts.ensures.quiet, c.verify_rows.ensures.quiet, then_unsound)
