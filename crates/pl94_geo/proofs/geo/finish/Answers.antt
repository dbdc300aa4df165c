use Rattle.{std.proofs.{Common.{◌<◌, ap, arith, length, rules}, lemmas.{Bool.Decides.nat_tests, List.nil_from_length}}, pl94_geo.specs.claim.Judging.blocks_of}
use Rattle.pl94_geo.proofs.{GeoLemmas.rows_from, HoldingLemmas.length-blocks_of}
use Rattle.pl94_geo.proofs.geo.finish.Goals as goal

pub returns-then-is_empty : goal.returns-then-is_empty
returns-then-is_empty c = search (rules, c.is_empty.ensures, nat_tests, nil_from_length, length-blocks_of)

pub returns : goal.returns
returns c = λ es holds.
    let some : 0 < length c.args.header.blocks.items = grind (arith, nat_tests, c.is_empty.ensures) in
    let some_blocks : 0 < length (blocks_of es) = omega (arith, ap length holds.blocks) in
    (rows_from c.args.header es _ holds holds.blocks some_blocks, omega (arith, length-blocks_of es), holds.blocks, holds.state_record)
