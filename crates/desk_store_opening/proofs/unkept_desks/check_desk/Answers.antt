use Rattle.{desk_store_opening.proofs.Owned.parts_owned, desk_store_pages.proofs.Looking.{both, fails, fails_then, finds, gathered}}
use Rattle.desk_store_opening.proofs.unkept_desks.check_desk.Goals as goal

pub returns-in_err-check_rows : goal.returns-in_err-check_rows
returns-in_err-check_rows g c = fails c.from_residual.result (gathered _ c.in_err-check_rows.ensures) c.from_residual.ensures.1 (λ m is. absurd is)

pub returns-in_err-ranges : goal.returns-in_err-ranges
returns-in_err-ranges g c = fails_then (gathered _ c.in_ok-check_rows.ensures) c.from_residual-in_err-ranges.result c.in_err-ranges.ensures c.from_residual-in_err-ranges.ensures.1 (λ m below is. is)

pub returns-in_err-check_owners : goal.returns-in_err-check_owners
returns-in_err-check_owners g c = fails_then (both (gathered _ c.in_ok-check_rows.ensures) c.in_ok-ranges.ensures) c.from_residual-in_err-check_owners.result (gathered _ c.in_err-check_owners.ensures) c.from_residual-in_err-check_owners.ensures.1 (λ m shown is. absurd is)

pub returns : goal.returns
returns g c = finds (both (both (gathered _ c.in_ok-check_rows.ensures) c.in_ok-ranges.ensures) (gathered _ c.in_ok-check_owners.ensures)) (λ m is.
    let shown = is.0.1 in
    record {
      desk = shown.0.desk;
      read = record { numbers = is.0.0; shown = shown.0.shown; owned = parts_owned m c.check_shown.new.counts shown.1 is.1 };
      limits = shown.0.limits;
      ranges_are = shown.0.ranges_are;
    })
