use Rattle.{std.proofs.Common.rules, inspect_command.proofs.Devices.{pages_told, then_owned, then_unsound}, page_store.proofs.Stops.quiet_more}
use Rattle.inspect_command.proofs.verifying.verify_all.Goals as goal

pub returns-in-Ok : goal.returns-in-Ok
returns-in-Ok g c =
    let sound = then_owned c.args.pages.now c.check_pages.new.pages c.verify_pages.new.pages c.verify_pages.result c.check_pages.ensures.reading.quiet c.verify_pages.ensures.quiet c.in-Ok.ensures.owned c.verify_pages.ensures.sound in
    search (rules, quiet_more, c.check_pages.ensures.reading.quiet, c.verify_pages.ensures.quiet, then_unsound)

pub returns-in-Err : goal.returns-in-Err
returns-in-Err g c = search (rules, pages_told)
