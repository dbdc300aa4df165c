use Rattle.{std.{specs.Option.option_copied, proofs.Common.{◌≡◌, ◌++◌, drop}}, desk_store_catalogue.specs.Cutting.changes_in}
use Rattle.desk_store_catalogue.proofs.changes.changed_counties.Given as goal

abbrev pub invariant-loop-range : goal.invariant-loop-range
invariant-loop-range l = record {
  changes : l.changes.items ++ changes_in (option_copied l.last) l.new (drop l.range-index l.ranges) ≡ changes_in (option_copied l.last) l.new l.ranges;
}
