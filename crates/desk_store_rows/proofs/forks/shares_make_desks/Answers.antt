use Rattle.desk_store_rows.proofs.Forked.{shares_made}
use Rattle.desk_store_rows.proofs.forks.shares_make_desks.Goals as goal

pub returns : goal.returns
returns c = shares_made
