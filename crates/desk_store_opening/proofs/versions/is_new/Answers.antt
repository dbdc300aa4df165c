use Rattle.{desk_store_opening.specs.Opening.HasVersion, desk_store_pages.proofs.{Looking.not_looked, Reading.get_unread}}
use Rattle.desk_store_opening.proofs.versions.is_new.Goals as goal

pub returns-in-Err : goal.returns-in-Err
returns-in-Err g c = not_looked c.get.ensures.reading.quiet (get_unread HasVersion c.args.txn.now c.args.pages.now c.get.new.pages c.in-Err.error c.in-Err.ensures.reading.err)
