-- The number of a block that was read.
use Rattle.{std.proofs.{Common.{◌≡◌, ◌<◌, ℕ, List, length, get_or}, lemmas.List.{get_or-map, length-map}}, desk_model.specs.claim.Geography.{id_at, ids_of}}
use Rattle.desk_model.specs.declared.block.BlockRow.{BlockRow}

pub id_there : (xs : List BlockRow) (k : ℕ) (row : BlockRow) → k < length xs → id_at xs k ≡ (get_or xs k row).id
id_there xs k row less = get_or-map (λ (b : BlockRow). b.id) xs k row 0 less

pub length-ids : (xs : List BlockRow) → length (ids_of xs) ≡ length xs
length-ids xs = length-map xs (λ (b : BlockRow). b.id)
