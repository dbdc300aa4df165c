use Rattle.{std.proofs.Common.{◌≡◌, ◌+◌, List, length, sym, ap, ◌∙◌, arith, rules}, desk_model.specs.{Ranges.ranges_of, claim.{Desk.Desk, Geography.GeographyModel}}}
use Rattle.{desk_model.specs.{claim.Room.revision_rows, declared.ranges.CountyRange.CountyRange}, desk_store_catalogue.specs.{Cutting.changes_in, Kept.revision_in}}
use Rattle.plan_revisions.proofs.{Accepted.{next_is, rows_added}, CommandCounties.few_ranges, Counted.{changes_told, each_told, if_whole, same_geography}}
use Rattle.std.specs.FinMap as map_of
use Rattle.plan_revisions.proofs.rows.rows_between.Goals as goal

pub revision_rows-requires-clause-few : goal.revision_rows-requires-clause-few
revision_rows-requires-clause-few c = search (rules, arith, few_ranges, c.args.geography.now, c.blocks-blocks.ensures.valid.few, c.counties.result.now, c.counties.ensures)

pub revision_rows-requires-clause-each : goal.revision_rows-requires-clause-each
revision_rows-requires-clause-each c =
    each_told c.args.shown.now c.args.name.now c.args.after c.args.then.now c.requires.revised (ranges_of c.args.geography.now) c.args.changes.now c.requires.changes
    ∙ ap (λ (l : List CountyRange). length l) (sym c.counties.ensures)

pub returns : goal.returns
returns c =
    let d = c.args.shown.now in
    let e = c.args.then.now in
    let g = c.args.geography.now in
    let r = c.requires.revised in
    let name = c.args.name.now in
    let last = revision_in (map_of.get d.plans name) c.args.after in
    let then_geography = ap (λ (x : Desk). x.geography) r.desk ∙ c.requires.geography in
    let long : length r.districts ≡ length g.blocks = c.revisions_are_whole-2.ensures name (c.args.after + 1) g r.districts then_geography (next_is d name c.args.after e r) in
    let changes = changes_told d name c.args.after e r (ranges_of g) c.args.changes.now c.requires.changes ∙ ap (λ (l : List CountyRange). changes_in last r.districts l) (sym c.counties.ensures) in
    let the_geography : g ≡ r.g = same_geography d g r.g c.requires.geography r.geography in
    c.revision_rows.ensures g last r.districts c.counties.ensures changes long (if_whole d g last c.requires.geography (c.revisions_are_whole.ensures name c.args.after))
    ∙ ap (λ (x : GeographyModel). revision_rows x last r.districts) the_geography
    ∙ sym (rows_added d name c.args.after e r)
