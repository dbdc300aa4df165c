use Rattle.page_store.proofs.Stops.{quiet_more}
use Rattle.store_verification.proofs.counties.counties_in.Goals as goal

pub returns-in-Some : goal.returns-in-Some
returns-in-Some g c = record { quiet = quiet_more c.args.pages.now c.get_row.new.pages c.counties_of_load.new.pages c.get_row.ensures.quiet c.counties_of_load.ensures.quiet }
