use Rattle.{std.proofs.Common.{◌<◌, ◌-◌, length, get_or, subst, ap, arith}, desk_model.specs.declared.geography.Pair.Pair, desk_store_rows.specs.claim.Puts.Row}
use Rattle.geo_tables.{specs.Staging.PutsRow, proofs.Staging.{read_at, had_at, row_more, block_is, pair_is, fits_here, no_block}}
use Rattle.geo_tables.proofs.puts.put_place.Goals as goal

pub returns-then-place-blocks-clause-puts : goal.returns-then-place-blocks-clause-puts
returns-then-place-blocks-clause-puts g c =
    subst (λ (row : Row). PutsRow c.args.fingers.now c.put_block.new.fingers row c.args.txn.now c.put_block.new.txn c.args.pages.now c.put_block.new.pages c.put_block.result)
    (block_is c.args.load c.args.geography.now c.args.place c.index-blocks-place.result
    (read_at c.blocks-blocks.result.now c.args.geography.now.blocks c.args.place c.index-blocks-place.result c.blocks-blocks.ensures.value c.if-place-blocks.true c.index-blocks-place.is)) c.put_block.ensures.puts

pub returns-then-place-blocks-clause-staged : goal.returns-then-place-blocks-clause-staged
returns-then-place-blocks-clause-staged g c = λ m staged.
    row_more m c.args.load c.args.geography.now c.args.place c.ranges.load.fits (omega arith) (omega arith)
    (fits_here c.args.geography.now c.args.place c.index-blocks-place.result
    (read_at c.blocks-blocks.result.now c.args.geography.now.blocks c.args.place c.index-blocks-place.result c.blocks-blocks.ensures.value c.if-place-blocks.true c.index-blocks-place.is) c.put_block.ensures.fits)
    c.requires.within staged

pub returns-clause-puts : goal.returns-clause-puts
returns-clause-puts g c =
    let xs = c.pairs-pairs.result.now in
    let after = c.args.place - length c.blocks-blocks.result.now in
    let none : Pair = record { first = 0; second = 0 } in
    let some : after < length xs = omega (arith, ap length c.blocks-blocks.ensures.value, ap length c.pairs-pairs.ensures.value) in
    subst (λ (row : Row). PutsRow c.args.fingers.now c.put_pair.new.fingers row c.args.txn.now c.put_pair.new.txn c.args.pages.now c.put_pair.new.pages c.put_pair.result)
    (pair_is c.args.load c.args.geography.now c.args.place after (get_or xs after none) (omega (arith, ap length c.blocks-blocks.ensures.value))
    (had_at xs c.args.geography.now.pairs after none c.pairs-pairs.ensures.value some)) c.put_pair.ensures

pub returns-clause-staged : goal.returns-clause-staged
returns-clause-staged g c = λ m staged.
    row_more m c.args.load c.args.geography.now c.args.place c.ranges.load.fits (omega arith) (omega arith)
    (no_block c.args.geography.now c.args.place (omega (arith, ap length c.blocks-blocks.ensures.value))) c.requires.within staged
