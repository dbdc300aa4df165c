use Rattle.{std.{specs.List.flat_map, proofs.Common.{◌≡◌, ◌++◌, take, codes}}, desk_model.specs.claim.Step.block_text}
use Rattle.desk_store_catalogue.proofs.blocks.blocks_text.Given as goal

abbrev pub invariant-loop-block : goal.invariant-loop-block
invariant-loop-block l = l.text.items ≡ codes "BLOCKID|PLACE|POPULATION\n" ++ flat_map block_text (take l.block-index l.blocks)
