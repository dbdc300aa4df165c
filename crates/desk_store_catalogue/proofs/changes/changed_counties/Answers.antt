use Rattle.{std.{specs.Option.option_copied, proofs.Common.rules}, desk_store_catalogue.proofs.Cutting.{changes_on, within_last}}
use Rattle.desk_store_catalogue.proofs.changes.changed_counties.Goals as goal

pub is_changed-requires : goal.is_changed-requires
is_changed-requires c = search (rules, within_last)

pub loop-range-preserved : goal.loop-range-preserved
loop-range-preserved c = record {
  changes = changes_on (option_copied c.args.last) c.args.new.now c.args.ranges.now c.loop-range.range-index (record { first = 0; count = 0 }) c.loop-range.changes.items _ _ c.is_changed.result
      c.loop-range-test.true c.loop-range.invariant.changes c.is_changed.ensures c.in_ok-push.ensures.items;
}
