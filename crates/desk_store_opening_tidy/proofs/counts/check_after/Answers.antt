use Rattle.{std.{specs.FinMap.get, proofs.Common.{[], sym, ap, subst, ◌∙◌, refl}}, desk_store_pages.specs.Reading.StandsAs, desk_store_rows.specs.claim.Keys.{chunk_prefix, seal}}
use Rattle.{desk_store_rows.specs.claim.Values.seal_bytes, desk_store_opening_tidy.proofs.{After.{due_chunks, kept_counted, none_moved}, Kept.seal_of}}
use Rattle.desk_store_pages.proofs.Looking.{both, fails, fails_then, looks}
use Rattle.desk_store_opening_tidy.proofs.counts.check_after.Goals as goal

pub returns-in_err-sealed : goal.returns-in_err-sealed
returns-in_err-sealed g c = fails c.from_residual.result c.in_err-sealed.ensures c.from_residual.ensures.1
    (λ m is. let stands = seal_of m is.kept.desk.geography is.kept.is.geography in (stands.0, stands.1 ∙ ap (get m) (sym c.seal.ensures)))

pub returns-in_err-check_loads : goal.returns-in_err-check_loads
returns-in_err-check_loads g c =
    let sealed = c.in_ok-sealed.sealed in
    fails_then c.in_ok-sealed.ensures c.from_residual-in_err-check_loads.result c.in_err-check_loads.ensures c.from_residual-in_err-check_loads.ensures.1
    (λ m found is. record { stands = subst (λ k. StandsAs seal_bytes k m sealed) c.seal.ensures found; rows = is.kept.tidy.rows; owned = is.kept.tidy.owned })

pub returns-in_err-check_sealed : goal.returns-in_err-check_sealed
returns-in_err-check_sealed g c =
    let sealed = c.in_ok-sealed.sealed in
    fails_then (both c.in_ok-sealed.ensures c.in_ok-check_loads.ensures) c.from_residual-in_err-check_sealed.result c.in_err-check_sealed.ensures c.from_residual-in_err-check_sealed.ensures.1
    (λ m found is. record { stands = subst (λ k. StandsAs seal_bytes k m sealed) c.seal.ensures found.0; counted = kept_counted m is.kept.desk is.kept.is is.kept.tidy.rows })

pub returns : goal.returns
returns g c =
    looks (both (both c.in_ok-sealed.ensures c.in_ok-check_loads.ensures) c.in_ok-check_sealed.ensures) c.refuse_from.result c.refuse_from.ensures
    (λ m _ found none.
    let stands = subst (λ k. StandsAs seal_bytes k m c.in_ok-sealed.sealed) c.seal.ensures found.0.0 in
    let chunks = none_moved m c.chunk_pieces.result (chunk_prefix c.args.next.chunk) [] [] c.chunk_pieces.ensures refl none in
    record { loads = found.0.1 stands; counted = found.1 stands; chunks = chunks })
    (λ m _ is. none_moved m (chunk_prefix c.args.next.chunk) c.chunk_pieces.result [] [] (sym c.chunk_pieces.ensures) refl (due_chunks c.args.next m is))
