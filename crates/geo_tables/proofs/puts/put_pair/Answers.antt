use Rattle.{std.proofs.Common.subst, desk_store_rows.specs.claim.Puts.Row, geo_tables.specs.Staging.PutsRow}
use Rattle.geo_tables.proofs.puts.put_pair.Goals as goal

pub returns : goal.returns
returns g c =
    let did = c.put_row_with.ensures in
    subst (λ (row : Row). PutsRow c.args.fingers.now c.put_row_with.new.fingers row c.args.txn.now c.put_row_with.new.txn c.args.pages.now c.put_row_with.new.pages c.put_row_with.result)
    (λ i. (c.pair.ensures i, c.pair_value-value.ensures i)) (record { quiet = did.quiet; begun = did.begun; put = did.put })
