use Rattle.{std.proofs.Common.{◌≡◌, ◌<◌, ◌+◌, ◌-◌, [], length, get_or, arith, sym, ◌∙◌, ap, subst, rules}, desk_model.specs.claim.{Block.county_of, Geography.GeographyModel}}
use Rattle.desk_model.specs.{claim.Ranges.counties, declared.block.BlockRow.BlockRow}
use Rattle.desk_model.proofs.Runs.{IsCutTo, cut_start, cut_same, cut_more, cut_end, cut_at, county_there, counties_long}
use Rattle.desk_model.proofs.ranges.ranges.Goals as goal
use Rattle.desk_model.proofs.ranges.ranges.Goals.{then-county+in_ok-push, else-county}

pub loop-place-init : goal.loop-place-init
loop-place-init c =
    let g : GeographyModel = record { blocks = c.args.blocks.now; pairs = [] } in
    subst (λ all. IsCutTo (counties g) all 0 1) (sym c.new-all.ensures.items) (cut_start (counties g) (omega (arith, counties_long g, c.requires.some)))

pub loop-place-preserved : goal.loop-place-preserved
loop-place-preserved c =
    let g : GeographyModel = record { blocks = c.args.blocks.now; pairs = [] } in
    let inside : c.loop-place.place < length c.args.blocks.now = omega arith in
    let before : c.loop-place.first < length c.args.blocks.now = omega (arith, c.loop-place.invariant.before) in
    let here : get_or (counties g) c.loop-place.place 0 ≡ c.county.result = county_there g c.loop-place.place c.index-blocks-place.result inside c.index-blocks-place.is ∙ ap (λ (row : BlockRow). county_of row.id) c.index-blocks-place.is ∙ sym c.county.ensures in
    let there : get_or (counties g) c.loop-place.first 0 ≡ c.county-in-loop-place.result = county_there g c.loop-place.first c.index-blocks-first.result before c.index-blocks-first.is ∙ ap (λ (row : BlockRow). county_of row.id) c.index-blocks-first.is ∙ sym c.county-in-loop-place.ensures in
    let long : c.loop-place.place < length (counties g) = omega (arith, counties_long g, inside) in
    elim c.if-county.branch [
      | then-county+in_ok-push w ↦ search (rules, cut_more)
      | else-county w ↦ search (rules, cut_same)
    ]

pub returns : goal.returns
returns c =
    let g : GeographyModel = record { blocks = c.args.blocks.now; pairs = [] } in
    let long : length c.args.blocks.now ≡ length (counties g) = sym (counties_long g) in
    let some : 0 < length (counties g) = omega (arith, long, c.requires.some) in
    search (rules, cut_at, cut_end)
