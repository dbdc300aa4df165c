use Rattle.page_store.proofs.Stops.{quiet_more}
use Rattle.inspect_command.proofs.verifying.wrong_row.Goals as goal

pub returns-in-Ok-Some : goal.returns-in-Ok-Some
returns-in-Ok-Some g c = record { quiet = quiet_more c.args.pages.now c.geography.new.pages c.first_wrong.new.pages c.geography.ensures.quiet c.first_wrong.ensures.quiet }

pub returns-in_default : goal.returns-in_default
returns-in_default g c = record { quiet = quiet_more c.args.pages.now c.geography.new.pages c.first_wrong-in_default.new.pages c.geography.ensures.quiet c.first_wrong-in_default.ensures.quiet }
