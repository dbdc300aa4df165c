use Rattle.{std.proofs.{Common.{◌<◌, length, refl, arith, rules}, lemmas.Bool.Decides.nat_tests}, desk_model.specs.claim.GeographyModels.block_limit}
use Rattle.pl94_geo.proofs.HoldingLemmas.{holds_block, too_many}
use Rattle.pl94_geo.proofs.header.Header.take_block.Goals as goal

pub returns-then-is_full : goal.returns-then-is_full
returns-then-is_full c = search (rules, c.is_full.ensures, c.if-is_full.true, c.requires.kind, c.number.ensures, c.in_ok-add.ensures.0, c.in_ok-add-2.ensures.0, nat_tests, too_many)

pub returns : goal.returns
returns c = λ es holds same.
    let room : length c.args.self.now.blocks.items < block_limit = grind (arith, nat_tests, c.is_full.ensures, c.if-is_full.false) in
    holds_block c.args.self.now _ es c.args.entry c.args.id holds c.requires.valid c.requires.kind same (rw c.number.ensures at c.in_ok-add.ensures.0)
    (rw c.number.ensures at c.in_ok-add.ensures.1) c.in_ok-add-2.ensures.0 c.in_ok-add-2.ensures.1 refl refl c.in-Ok.ensures.items room
