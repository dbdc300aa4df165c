use Rattle.desk_store_pages.{specs.Reading.HasRow, proofs.{Looking.not_looked, Reading.get_unread}}
use Rattle.desk_store_pages.proofs.reads.read_row.Goals as goal

pub returns-in-Err-clause-looks : goal.returns-in-Err-clause-looks
returns-in-Err-clause-looks g c = not_looked c.get.ensures.reading.quiet (get_unread (HasRow c.args.key.now) c.args.txn.now c.args.pages.now c.get.new.pages c.in-Err.error c.in-Err.ensures.reading.err)
