use Rattle.{std.{specs.{FinMap.get as row_at, Prelude.None}, proofs.Common.◌≡◌}, desk_store_pages.proofs.{Looking.not_looked, Reading.get_unread}}
use Rattle.desk_store_opening.proofs.marks.refuse_row.Goals as goal

pub returns-in-Err : goal.returns-in-Err
returns-in-Err g c = not_looked c.get.ensures.reading.quiet (get_unread (λ m. row_at m c.args.key.now ≡ None) c.args.txn.now c.args.pages.now c.get.new.pages c.in-Err.error c.in-Err.ensures.reading.err)
