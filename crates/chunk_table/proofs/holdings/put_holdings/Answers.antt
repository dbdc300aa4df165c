use Rattle.{desk_store_rows.specs.{Puts.rows_told, RevisionSteps.new_holder_count}, desk_store_pages.proofs.Writing.{puts_fail, puts_more, puts_none}}
use Rattle.chunk_table.proofs.holdings.put_holdings.Goals as goal

pub returns-in_err-put_held : goal.returns-in_err-put_held
returns-in_err-put_held g c = puts_fail c.from_residual.result (puts_none (rows_told (new_holder_count c.args.first) c.args.count) c.in_err-put_held.ensures) c.from_residual.ensures.1

pub returns : goal.returns
returns g c = puts_more c.put_counts.result c.in_ok-put_held.ensures c.put_counts.ensures
