use Rattle.{std.proofs.Common.{◌∷◌, [], rules}, desk_store_rows.specs.claim.{Keys.{key_of, counters}, Values.counters_bytes}, plan_revisions.proofs.Exhausting.until_full}
use Rattle.desk_store_pages.proofs.Writing.{puts_as, puts_fail, puts_more, puts_none}
use Rattle.plan_revisions.proofs.changes.put_plan.Goals as goal

pub returns-in_err-put_row : goal.returns-in_err-put_row
returns-in_err-put_row g c = until_full (puts_fail c.from_residual.result
    (puts_none ((key_of counters, counters_bytes c.args.next.now) ∷ []) (puts_as (λ i. (c.named.ensures i, c.plan_value.ensures i) ∷ []) c.in_err-put_row.ensures.puts)) c.from_residual.ensures.1) (search rules)

pub returns : goal.returns
returns g c = until_full (puts_more c.put_row-2.result (puts_as (λ i. (c.named.ensures i, c.plan_value.ensures i) ∷ []) c.in_ok-put_row.ensures.puts)
    (puts_as (λ i. (c.counters.ensures i, c.counters_value.ensures i) ∷ []) c.put_row-2.ensures.puts)) (search rules)
