-- How many counties a geography has.
use Rattle.{std.proofs.{Common.{◌<◌, ◌≤◌, ◌+◌, ◌^◌, ℕ, Bool, cond, List, [], ◌∷◌, length, arith}, lemmas.List.length-map}, desk_model.specs.Ranges.ranges_of}
use Rattle.{desk_model.specs.claim.{Geography.GeographyModel, GeographyModels.block_limit, Ranges.{runs_from, runs}}, desk_store_catalogue.proofs.Counted.laid_long}

either_few : (same : Bool) (one other : List ℕ) (n : ℕ) → length one ≤ n → length other ≤ n → length (cond same one other) ≤ n
either_few same one other n few more = search (arith)

few_from : (c n : ℕ) (ds : List ℕ) → length (runs_from c n ds) ≤ length ds + 1
few_from c n [] = omega arith
few_from c n (d ∷ ds) = search (arith, (few_from c (n + 1) ds), (few_from d 1 ds), either_few, d)

few_runs : (cs : List ℕ) → length (runs cs) ≤ length cs
few_runs cs = search (arith, few_from)

-- fewer than 2^32, since it has no more than it has blocks
pub few_ranges : (g : GeographyModel) → length g.blocks ≤ block_limit → length (ranges_of g) < 2 ^ 32
few_ranges g few = search (arith, laid_long, few_runs, length-map, g.blocks)
