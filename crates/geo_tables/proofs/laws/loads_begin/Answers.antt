use Rattle.{std.proofs.Common.{arith, rules}, geo_tables.proofs.LoadRows.{begun_desk, begun_mark, begun_next, begun_staged, begun_unsealed}}
use Rattle.geo_tables.proofs.laws.loads_begin.Goals as goal

pub returns : goal.returns
returns c m next = search (rules, arith, begun_desk, begun_mark, begun_next, begun_unsealed, begun_staged)
