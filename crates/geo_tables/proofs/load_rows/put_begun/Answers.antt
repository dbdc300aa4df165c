use Rattle.{std.proofs.Common.{[], ◌∷◌}, desk_store_rows.specs.claim.{Keys.{key_of, counters}, Values.counters_bytes}, geo_tables.specs.Rows.load_taken}
use Rattle.desk_store_pages.proofs.Writing.{puts_as, puts_fail, puts_more, puts_none}
use Rattle.geo_tables.proofs.load_rows.put_begun.Goals as goal

pub returns-in_err-put_row : goal.returns-in_err-put_row
returns-in_err-put_row g c = puts_fail c.from_residual.result
    (puts_none ((key_of counters, counters_bytes (load_taken c.args.next.now)) ∷ []) (puts_as (λ i. (c.begun-begun.ensures i, []) ∷ []) c.in_err-put_row.ensures.puts)) c.from_residual.ensures.1

pub returns : goal.returns
returns g c = puts_more c.put_row-2.result (puts_as (λ i. (c.begun-begun.ensures i, []) ∷ []) c.in_ok-put_row.ensures.puts)
    (puts_as (λ i. (c.counters.ensures i, c.counters_value-value.ensures i) ∷ []) c.put_row-2.ensures.puts)
