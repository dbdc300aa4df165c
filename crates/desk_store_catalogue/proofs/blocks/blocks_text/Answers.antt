use Rattle.std.{specs.List.flat_map, proofs.{Common.{◌≡◌, ◌+◌, ◌<◌, ◌++◌, [], ◌∷◌, ℕ, List, length, take, get_or, codes, ap, ◌∙◌, arith, append_assoc, rules}, Math.Seq.take-suc}}
use Rattle.{std.proofs.lemmas.{Grind.flat_map-append, List.{append-nil, take_all}}, desk_model.specs.{claim.Step.block_text, declared.block.BlockRow.BlockRow}}
use Rattle.desk_store_catalogue.proofs.blocks.blocks_text.Goals as goal

-- the lines of the first blocks, after a head, and the line of the next one
lines_on : (head : List ℕ) (blocks : List BlockRow) (k : ℕ) (b : BlockRow) (text more : List ℕ) → k < length blocks → b ≡ get_or blocks k b
    → text ≡ head ++ flat_map block_text (take k blocks) → more ≡ text ++ block_text b → more ≡ head ++ flat_map block_text (take (k + 1) blocks)
lines_on head blocks k b text more less is was are =
    search (arith, take-suc blocks k b less, flat_map-append block_text (take k blocks) (get_or blocks k b ∷ []), append-nil (block_text (get_or blocks k b)), append_assoc)

pub loop-block-init : goal.loop-block-init
loop-block-init c = c.in_ok-extend_from_slice.ensures.items ∙ ap (λ (t : List ℕ). t ++ codes "BLOCKID|PLACE|POPULATION\n") c.in_ok-text.ensures.items

pub loop-block-preserved : goal.loop-block-preserved
loop-block-preserved c = search (lines_on, c.block-item.is, c.loop-block.invariant, c.in_ok-push_block.ensures)

pub returns : goal.returns
returns c = search (rules, take_all)
