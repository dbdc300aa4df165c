-- Where a block stands in a rising list.
use Rattle.std.{specs.List.Sorted.IsStrictlyIncreasing, proofs.{Common.{rules, ◌≡◌, ℕ, ◌+◌, ◌<◌, ◌≤◌, List, length, get_or, Contains, arith, sym, ◌∙◌, ap}, lemmas.Bool.cases_lt}}
use Rattle.std.proofs.lemmas.{Grind.get_or_default_zero, List.{get_or-map, length-map}, Map.Keys.{sorted_from_strictly_increasing, below_from_sorted}}
use Rattle.desk_model.specs.{Geography.IsBetween, claim.Geography.{ids_of, id_at}, declared.block.BlockRow.BlockRow}

pub rises : (blocks : List BlockRow) → IsStrictlyIncreasing (ids_of blocks) → (i j : ℕ) → i < j → j < length blocks → id_at blocks i < id_at blocks j
rises blocks rising i j less within = search (below_from_sorted, sorted_from_strictly_increasing, length-map)

pub id_there : (blocks : List BlockRow) (i : ℕ) (row : BlockRow) → i < length blocks → row ≡ get_or blocks i row → id_at blocks i ≡ row.id
id_there blocks i row within is = get_or-map (λ b. b.id) blocks i row 0 within ∙ ap (λ b. b.id) (sym is)

module _ (blocks : List BlockRow) (rising : IsStrictlyIncreasing (ids_of blocks)) where
  module _ (id low high at : ℕ) (row : BlockRow) (was : IsBetween blocks id low high) (inside : at < high) (is : row ≡ get_or blocks at row) where
    here : id_at blocks at ≡ row.id
    here = id_there blocks at row (omega (arith, was.within)) is

    pub go_up : row.id < id → IsBetween blocks id (at + 1) high
    go_up less = let below : id_at blocks at < id = rw here less in search (rules, rises, below, cases_lt)

    pub go_down : id < row.id → IsBetween blocks id low at
    go_down more = let above : id < id_at blocks at = rw here more in search (rules, rises, above, cases_lt)

    -- up to and with a block that isn't before it
    pub up_to : id ≤ row.id → IsBetween blocks id low (at + 1)
    up_to most = search (rules, rises, id_there)

    -- from a block that isn't after it
    pub from_at : row.id ≤ id → IsBetween blocks id at high
    from_at most = search (rules, rises, id_there)

-- nothing lies between
pub not_there : (blocks : List BlockRow) (id low high : ℕ) → IsBetween blocks id low high → high ≤ low → ¬ Contains (ids_of blocks) id
not_there blocks id low high was closed has = search (rules, length-map, get_or_default_zero, cases_lt)

-- the whole list
pub between_all : (blocks : List BlockRow) (id : ℕ) → IsBetween blocks id 0 (length blocks)
between_all blocks id = record { within = omega arith; below = λ k under. absurd (omega arith); above = λ k over inside. absurd (omega arith) }
