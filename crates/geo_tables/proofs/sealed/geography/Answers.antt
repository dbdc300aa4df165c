use Rattle.{std.proofs.Common.{Some, ap, sym, ◌∙◌, arith, rules}, desk_store_pages.proofs.Looking.{both, fails, fails_then, finds, gathered}}
use Rattle.geo_tables.proofs.SealedRows.{none_by_seal, seal_stands, told_by_seal}
use Rattle.geo_tables.proofs.sealed.geography.Goals as goal

pub returns-in_err-found : goal.returns-in_err-found
returns-in_err-found g c = fails c.from_residual.result (gathered _ c.in_err-found.ensures) c.from_residual.ensures.1 (λ m is. rw c.seal.ensures (seal_stands m is.0 is.1))

pub returns-in_err-geography-in-Some : goal.returns-in_err-geography-in-Some
returns-in_err-geography-in-Some g c = fails_then (gathered _ c.in_ok-found.ensures) c.from_residual-in_err-geography-in-Some.result c.in_err-geography-in-Some.ensures c.from_residual-in_err-geography-in-Some.ensures.1 (λ m stands is.
    let told = told_by_seal m is.0 c.in-Some.sealed c.seal_fits.ensures (rw (c.seal.ensures, c.in-Some.is) at stands) is.1 in (told.0, told.2))

pub returns-in_ok-geography-in-Some : goal.returns-in_ok-geography-in-Some
returns-in_ok-geography-in-Some g c = finds (both (gathered _ c.in_ok-found.ensures) c.in_ok-geography-in-Some.ensures) (λ m is.
    let stands = rw (c.seal.ensures, c.in-Some.is) at is.0 in
    record {
      there = (c.in-Some.sealed, stands, is.1.there);
      read = λ found says. let told = told_by_seal m found c.in-Some.sealed c.seal_fits.ensures stands says in ap Some (is.1.read told.0 told.2) ∙ sym told.1;
    })

pub returns-in-None : goal.returns-in-None
returns-in-None g c = search (rules, arith, finds, gathered, c.in_ok-found.ensures, c.seal.ensures, c.seal.result, c.in-None.is, none_by_seal)
