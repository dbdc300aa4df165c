-- The values of rows. Each number stands in its bytes, the highest first.
use Rattle.std.specs.Prelude.{ℕ, List, ◌++◌, Option, Some, None}
use Rattle.{desk_model.specs.declared.{block.BlockRow.BlockRow, kind.Kind.{Kind, TheVariants.{Congress, Senate, House}}}, desk_store_rows.specs.declared.value.Counters.Counters}
use Rattle.desk_store_rows.specs.{claim.Keys.{in_one, in_two, in_four, in_eight}, declared.value.{SealRow.SealRow, StoredPlan.StoredPlan}}

abbrev pub counters_bytes : Counters → List ℕ
counters_bytes c = in_eight c.plan ++ (in_eight c.chunk ++ in_eight c.load)

abbrev pub kind_code : Kind → ℕ
kind_code Congress = 0
kind_code Senate = 1
kind_code House = 2

abbrev pub plan_bytes : StoredPlan → List ℕ
plan_bytes p = in_eight p.number ++ (in_one (kind_code p.kind) ++ (in_two p.districts ++ in_four p.revisions))

abbrev pub seal_bytes : SealRow → List ℕ
seal_bytes s = in_eight s.load ++ (in_four s.blocks ++ in_four s.pairs)

-- whether there is a city, and its code
abbrev pub city_bytes : Option ℕ → List ℕ
city_bytes None = in_one 0 ++ in_four 0
city_bytes (Some city) = in_one 1 ++ in_four city

abbrev pub block_bytes : BlockRow → List ℕ
block_bytes b = in_eight b.id ++ (city_bytes b.city ++ in_four b.population)

-- the places of two neighbours
abbrev pub pair_bytes : ℕ × ℕ → List ℕ
pair_bytes p = in_four p.0 ++ in_four p.1
