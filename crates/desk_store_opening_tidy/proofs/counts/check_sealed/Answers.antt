use Rattle.{std.{specs.Prelude.Option, proofs.Common.{sym, subst}}, desk_store_pages.specs.Reading.StandsAs, desk_store_rows.specs.claim.{Keys.{key_of, seal}, Values.seal_bytes}}
use Rattle.{desk_store_rows.specs.declared.value.SealRow.SealRow, desk_store_opening_tidy.proofs.After.one_counted, desk_store_pages.proofs.Looking.tells}
use Rattle.desk_store_opening_tidy.proofs.counts.check_sealed.Goals as goal

pub returns-in-Some : goal.returns-in-Some
returns-in-Some g c =
    let row = c.in-Some.row in
    let fits = c.seal_fits.ensures in
    tells c.refuse_uncounted.result c.refuse_uncounted.ensures
    (λ m _ counted stands. one_counted m row fits.load fits.blocks fits.pairs (subst (λ (o : Option SealRow). StandsAs seal_bytes (key_of seal) m o) c.in-Some.is stands) counted)
    (λ m is. is.counted row fits.load fits.blocks fits.pairs (sym (subst (λ (o : Option SealRow). StandsAs seal_bytes (key_of seal) m o) c.in-Some.is is.stands)))
