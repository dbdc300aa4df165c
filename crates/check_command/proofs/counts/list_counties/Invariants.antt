use Rattle.{std.{specs.List.range_with_len, proofs.Common.{◌≡◌, List, map}}, check_command.specs.Counts.{county_codes, county_blocks, county_people, counties_to}}
use Rattle.desk_model.specs.declared.block.BlockRow.{BlockRow}
use Rattle.check_command.proofs.counts.list_counties.Given as goal

abbrev pub invariant-loop-county : goal.invariant-loop-county
invariant-loop-county l = (rows : List BlockRow) → l.blocks ≡ map (county_blocks rows) (range_with_len 0 county_codes)
    → l.people ≡ map (county_people rows) (range_with_len 0 county_codes) → l.counties.items ≡ counties_to rows l.county
