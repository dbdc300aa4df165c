use Rattle.{desk_store_pages.proofs.Looking.{both, fails, fails_then, gathered, looks}, plan_revisions_sweeps.proofs.Told.counted_by_holders_by}
use Rattle.plan_revisions_sweeps.proofs.checks.check_holdings.Goals as goal

pub returns-in_err-count_holders : goal.returns-in_err-count_holders
returns-in_err-count_holders g c = fails c.from_residual.result c.in_err-count_holders.ensures c.from_residual.ensures.1 (λ m is. is)

pub returns-in_err-check_counts : goal.returns-in_err-check_counts
returns-in_err-check_counts g c = fails_then c.in_ok-count_holders.ensures c.from_residual-in_err-check_counts.result (gathered _ c.in_err-check_counts.ensures) c.from_residual-in_err-check_counts.ensures.1 (λ m counted is. record { is = is; counts_are = counted })

pub returns : goal.returns
returns g c = looks (both c.in_ok-count_holders.ensures (gathered _ c.in_ok-check_counts.ensures)) c.check_names.result c.check_names.ensures
    (λ m u is named. record { counted_by_holders = counted_by_holders_by c.count_holders.new.counts m is.0 is.1; named = named }) (λ m counted is. is)
