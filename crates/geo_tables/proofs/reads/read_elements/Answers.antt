use Rattle.{std.{specs.FinMap.entries, proofs.Common.{◌≡◌, sym, ◌∙◌, arith}}, btree_scan.specs.Prefixes.under, geo_tables.proofs.Along.all_in, page_store.proofs.Stops.quiet_none}
use Rattle.{desk_store_pages.proofs.Looking.{begins, both, fails_then, finds, lacks_memory}, geo_tables.proofs.OneMore.{all_first, element_at, none_first, one_more_first}}
use Rattle.geo_tables.proofs.reads.read_elements.Goals as goal

pub returns-in_err-all : goal.returns-in_err-all
returns-in_err-all g c = lacks_memory c.from_residual.result (quiet_none c.args.pages.now) c.in_err-all.ensures c.from_residual.ensures.1

pub loop-place-init : goal.loop-place-init
loop-place-init g c = record {
  begun = c.requires.begun;
  working = c.scan-scan.ensures.fault;
  gathers = begins (λ m holds. (
    (under c.as_slice.result.now (entries m), c.scan-scan.ensures.rows m, all_in m c.as_slice.result.now),
    none_first g.E.Element.bytes_of g.E.Element.fits (g.E.Element.key_at c.args.load) c.args.count m c.in_ok-all.all.items c.in_ok-all.ensures,
  ));
}

pub returns-in_err-append_along : goal.returns-in_err-append_along
returns-in_err-append_along g c = fails_then c.loop-place.invariant.gathers c.from_residual-in_err-append_along.result c.in_err-append_along.ensures.gathers c.from_residual-in_err-append_along.ensures.1 (λ m so is.
    let element = element_at g.E.Element.bytes_of g.E.Element.fits (g.E.Element.key_at c.args.load) c.args.count m is.0 c.loop-place.place c.loop-place-test.true is.1 in
    (so.0, (element.x, element.held)))

pub loop-place-preserved : goal.loop-place-preserved
loop-place-preserved g c = record {
  begun = c.loop-place.invariant.begun ∙ sym c.append_along.ensures.gathers.quiet.count;
  working = c.in_ok-append_along.ensures.working;
  gathers = finds (both c.loop-place.invariant.gathers c.in_ok-append_along.ensures.gathers) (λ m is.
      let adds = is.1 is.0.0 in
      (adds.0, one_more_first g.E.Element.bytes_of g.E.Element.fits (g.E.Element.key_at c.args.load) c.args.count m c.loop-place.place c.loop-place.all.items c.append_along.new.all.items c.loop-place-test.true is.0.1 adds.1));
}

pub returns : goal.returns
returns g c = finds c.loop-place.invariant.gathers (λ m so.
    let same : c.loop-place.place ≡ c.args.count = omega arith in
    all_first g.E.Element.bytes_of g.E.Element.fits (g.E.Element.key_at c.args.load) c.args.count m c.loop-place.place c.loop-place.all.items same so.1)
