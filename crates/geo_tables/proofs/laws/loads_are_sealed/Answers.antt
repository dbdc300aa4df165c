use Rattle.{std.proofs.Common.{arith, rules}, geo_tables.proofs.LoadRows.{sealed_desk, sealed_is, sealed_next, sealed_unmarked}}
use Rattle.geo_tables.proofs.laws.loads_are_sealed.Goals as goal

pub returns : goal.returns
returns c m load g staged sound load_fits pairs_fit = search (rules, arith, sealed_is, sealed_desk, sealed_unmarked, sealed_next)
