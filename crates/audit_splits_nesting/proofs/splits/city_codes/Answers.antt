use Rattle.{std.proofs.Common.rules, audit_splits_nesting.proofs.Places.{codes_more, one_city, in_city, in_no_city}}
use Rattle.audit_splits_nesting.proofs.splits.city_codes.Goals as goal
use Rattle.audit_splits_nesting.proofs.splits.city_codes.Goals.{in-Some+then-codes-city, in-Some+else-codes-city, in_default}

pub loop-block-preserved : goal.loop-block-preserved
loop-block-preserved c = search (rules, c.loop-block.invariant, in-Some+then-codes-city, in_city, codes_more, one_city, in-Some+else-codes-city, in_default, in_no_city)
