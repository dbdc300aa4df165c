use Rattle.{btree_scan.specs.Parts.row_of, geo_tables.specs.Following.at_hand, desk_store_pages.proofs.Looking.{both, fails, fails_then, finds, gathered}}
use Rattle.geo_tables.proofs.Along.{found_same}
use Rattle.geo_tables.proofs.reads.append_along.Goals as goal

pub returns-in_err-found-clause-gathers : goal.returns-in_err-found-clause-gathers
returns-in_err-found-clause-gathers g c = fails c.from_residual.result (gathered _ c.in_err-found.ensures.looks) c.from_residual.ensures.1 (λ m is. is.0)

pub returns-in_err-append_next-clause-gathers : goal.returns-in_err-append_next-clause-gathers
returns-in_err-append_next-clause-gathers g c = fails_then (gathered _ c.in_ok-found.ensures.looks) c.from_residual-in_err-append_next.result c.in_err-append_next.ensures c.from_residual-in_err-append_next.ensures.1 (λ m taken is. (
  found_same m c.in_ok-found.found (at_hand c.key.result.now c.value.result.now) (row_of c.take_next.new.scan) c.key.ensures.key c.value.ensures.value (taken is.0).row_is,
  is.1,
))

pub returns-clause-gathers : goal.returns-clause-gathers
returns-clause-gathers g c = finds (both (gathered _ c.in_ok-found.ensures.looks) c.in_ok-append_next.ensures) (λ m is scans.
    let taken = is.0 scans in
    (taken.scans, is.1 (found_same m c.in_ok-found.found (at_hand c.key.result.now c.value.result.now) (row_of c.take_next.new.scan) c.key.ensures.key c.value.ensures.value taken.row_is)))
