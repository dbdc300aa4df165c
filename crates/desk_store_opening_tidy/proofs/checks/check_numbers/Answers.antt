use Rattle.{desk_store_opening_tidy.proofs.Kept.{are_below, counters_fit}, desk_store_pages.proofs.Looking.{both, fails, fails_then, looks}}
use Rattle.desk_store_opening_tidy.proofs.checks.check_numbers.Goals as goal

pub returns-in_err-next : goal.returns-in_err-next
returns-in_err-next g c = fails c.from_residual.result c.in_err-next.ensures.looks c.from_residual.ensures.1 (λ m kept. (kept.tidy.next, kept.tidy.is_next))

pub returns-in_err-check_rows : goal.returns-in_err-check_rows
returns-in_err-check_rows g c = fails_then c.in_ok-next.ensures.looks c.from_residual-in_err-check_rows.result c.in_err-check_rows.ensures c.from_residual-in_err-check_rows.ensures.1
    (λ m next kept. record { kept = kept; is_next = next; fits = counters_fit c.in_ok-next.next c.in_ok-next.ensures.fits })

pub returns : goal.returns
returns g c =
    let fits = counters_fit c.in_ok-next.next c.in_ok-next.ensures.fits in
    looks (both c.in_ok-next.ensures.looks c.in_ok-check_rows.ensures) c.check_after.result c.check_after.ensures
    (λ m _ is after. are_below c.in_ok-next.next m fits is.1.below is.0 is.1.rows after)
    (λ m is kept. record { kept = kept; is_next = is.0; fits = fits })
