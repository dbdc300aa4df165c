use Rattle.{std.proofs.Common.{◌≤◌, ◌<◌, ◌+◌, ◌⊎◌, length, arith, rules}, desk_store_catalogue.proofs.Overlays.none_outside}
use Rattle.desk_store_catalogue.proofs.Neighbours.{none_there, county_there, agree_alike, agree_apart, span_starts, span_ends}
use Rattle.desk_store_catalogue.proofs.patch.county_in_part.Goals as goal
use Rattle.desk_store_catalogue.proofs.patch.county_in_part.Goals.{then-first-eq0, else-first-eq0, then-end-blocks, else-end-blocks, then-is_listed+else-county, else-is_listed}

pub loop-place-init : goal.loop-place-init
loop-place-init c = search (rules, then-first-eq0, else-first-eq0, span_starts, none_outside)

pub returns : goal.returns
returns c = λ values is.
    let after : (length c.blocks-blocks.result.now ≤ c.loop-place.place) ⊎ ((c.part-first.result.0 + length c.part-first.result.1.now) < c.loop-place.place)
    = search (rules, then-end-blocks, else-end-blocks) in
    let agree = span_ends c.blocks-blocks.result.now c.args.read.now (c.part-first.result.0, c.part-first.result.0 + length c.part-first.result.1.now) c.loop-place.place (none_outside _ _ _ c.part-first.ensures) c.loop-place.invariant.0 after in
    search (rules, none_there)

pub returns-then-county : goal.returns-then-county
returns-then-county c = λ values is.
    let within : c.loop-place.place < length c.blocks-blocks.result.now
    = search (rules, then-end-blocks, else-end-blocks) in
    county_there c.args.geography.now values c.blocks-blocks.ensures.valid c.least_county_is_told.ensures c.blocks-blocks.result.now c.args.read.now c.loop-place.place
    c.index-blocks-place.result c.index-blocks-place-then-is_listed.result c.county-county.result c.county.result c.is_listed.result c.is_listed-in-loop-place.result c.blocks-blocks.ensures.value is
    c.loop-place.invariant.0 c.loop-place.invariant.1 within c.county-county.ensures c.county.ensures
    c.if-county.true c.is_listed.ensures c.is_listed-in-loop-place.ensures c.if-is_listed.true

pub loop-place-preserved : goal.loop-place-preserved
loop-place-preserved c = (
  elim c.if-is_listed.branch [
    | then-is_listed+else-county w ↦
        agree_apart c.blocks-blocks.result.now c.args.read.now c.loop-place.place c.loop-place.invariant.0 c.loop-place.invariant.1 w.index-blocks-place.result w.index-blocks-place-then-is_listed.result
        w.county-county.result w.county.result
        (elim c.if-end-blocks.branch [
          | then-end-blocks v ↦ omega (arith, v.stop-is, v.if-end-blocks.true, c.loop-place-test.true)
          | else-end-blocks v ↦ omega (arith, v.stop-is, c.loop-place-test.true)
        ]) w.county-county.ensures w.county.ensures w.if-county.false
    | else-is_listed w ↦ agree_alike c.blocks-blocks.result.now c.args.read.now c.loop-place.place c.loop-place.invariant.0 c.loop-place.invariant.1 c.is_listed.result
        c.is_listed-in-loop-place.result c.is_listed.ensures c.is_listed-in-loop-place.ensures w.if-is_listed.false
  ],
  omega arith,
)
