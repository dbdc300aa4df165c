use Rattle.{std.{specs.FinMap.get as row_at, proofs.Common.{◌≡◌, List, ℕ, Some, sym, subst, take, ap, ◌∙◌}}, desk_store_pages.proofs.Looking.{fails, gathered}}
use Rattle.geo_tables.proofs.OneMore.{value_gathered}
use Rattle.geo_tables.proofs.reads.append_element.Goals as goal

pub returns-in_err-length : goal.returns-in_err-length
returns-in_err-length g c = fails c.from_residual.result (gathered _ c.in_err-length.ensures.looks) c.from_residual.ensures.1
    (λ m is. (g.E.Element.bytes_of is.0, subst (λ (k : List ℕ). row_at m k ≡ Some (g.E.Element.bytes_of is.0)) (sym c.key-key.ensures) is.1.row))

pub returns : goal.returns
returns g c =
    let key = g.E.Element.key_at c.args.load c.args.place in
    value_gathered g.E.Element.bytes_of g.E.Element.fits key (take c.in_ok-length.length c.read_row.new.into) c.args.all.now.items c.append_read.new.all.items c.append_read.result c.in_ok-length.ensures.looks.passed
    (λ honest m holds. ap (row_at m) (sym c.key-key.ensures) ∙ c.in_ok-length.ensures.looks.there honest m holds) c.append_read.ensures
