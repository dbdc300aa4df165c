use Rattle.{std.proofs.Common.{◌<◌, length, get_or, take, drop, refl, sym, ◌∙◌, arith}, desk_store_opening.specs.Reading.no_cut}
use Rattle.desk_store_opening.proofs.Laying.{all_laid, county_fits, county_more, is_county, laid_one_more, none_laid}
use Rattle.desk_store_pages.proofs.Looking.{begins, both, fails_then, finds}
use Rattle.desk_store_opening.proofs.counties.lay_counties.Goals as goal

pub loop-county-init : goal.loop-county-init
loop-county-init g c = record {
  reads = begins (λ m holds. record { there = none_laid c.args.ranges.now c.args.names.now c.args.last.now c.args.before m; read = λ x said. refl });
  long = refl;
  within = λ within. within;
  begun = c.requires.begun;
}

pub lay_changed-requires-clause-within : goal.lay_changed-requires-clause-within
lay_changed-requires-clause-within g c =
    county_fits c.lists_are_cut.ensures c.args.ranges.now (length c.args.before) c.requires.cut c.loop-county.county no_cut c.loop-county-test.true c.loop-county.districts c.loop-county.invariant.long

pub returns-in_err-districts-clause-reads : goal.returns-in_err-districts-clause-reads
returns-in_err-districts-clause-reads g c =
    let k = c.loop-county.county in
    let cut = get_or c.args.ranges.now k no_cut in
    fails_then c.loop-county.invariant.reads c.from_residual.result c.in_err-districts.ensures.reads c.from_residual.ensures.1 (λ m so is. (
      take cut.count (drop cut.first is.0),
      is_county c.lists_are_cut.ensures c.args.ranges.now (length c.args.before) c.requires.cut k no_cut c.loop-county-test.true
          c.args.n c.args.names.now c.args.last.now c.args.before is.0 c.loop-county.districts (get_or c.args.names.now k 0) m refl is.1 c.requires.each refl (so.read is.0 is.1),
    ))

pub loop-county-preserved : goal.loop-county-preserved
loop-county-preserved g c =
    let ranges = c.args.ranges.now in
    let names = c.args.names.now in
    let last = c.args.last.now in
    let first = c.args.before in
    let k = c.loop-county.county in
    let cut = get_or ranges k no_cut in
    let before = c.loop-county.invariant in
    let now = c.in_ok-districts.ensures in
    record {
      reads = finds (both before.reads now.reads) (λ m is. record {
        there = laid_one_more c.lists_are_cut.ensures ranges (length first) c.requires.cut names last first m k c.loop-county-test.true c.loop-county.districts c.in_ok-districts.districts before.long
            is.0.there (get_or names k 0) refl is.1.there;
        read = λ x said.
            let so = is.0.read x said in
            is.1.read (take cut.count (drop cut.first x))
            (is_county c.lists_are_cut.ensures ranges (length first) c.requires.cut k no_cut c.loop-county-test.true
            c.args.n names last first x c.loop-county.districts (get_or names k 0) m refl said c.requires.each refl so)
            ∙ county_more c.lists_are_cut.ensures ranges (length first) c.requires.cut k no_cut c.loop-county-test.true
            c.args.n names last first x c.loop-county.districts (get_or names k 0) m refl said c.requires.each refl so;
      });
      long = now.long ∙ before.long;
      within = λ within. now.within (before.within within);
      begun = before.begun ∙ sym now.reads.quiet.count;
    }

pub returns-clause-reads : goal.returns-clause-reads
returns-clause-reads g c =
    let last = c.loop-county-test.false in
    let end = c.loop-county.auto.county-end in
    finds c.loop-county.invariant.reads (λ m is. record {
      there = λ read county named within. let less : county < c.loop-county.county = omega arith in is.there.read read county less within;
      read = λ x said. is.read x said ∙ all_laid c.lists_are_cut.ensures c.args.ranges.now (length c.args.before) c.requires.cut x c.args.before c.loop-county.county refl said.long (omega arith);
    })
