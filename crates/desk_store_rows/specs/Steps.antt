-- What the changes of a desk's rows move on, and which rows they put.
use Rattle.std.specs.Prelude.{◌≡◌, ◌⊎◌, ◌<◌, ◌+◌, ◌^◌, ℕ, List}
use Rattle.desk_store_rows.specs.{claim.Keys.{key_of, block, pair}, declared.value.{Counters.Counters, StoredPlan.StoredPlan}}

abbrev pub one_plan_more : Counters → Counters
one_plan_more c = record c { plan = c.plan + 1 }

abbrev pub chunks_more : Counters → ℕ → Counters
chunks_more c count = record c { chunk = c.chunk + count }

abbrev pub one_load_more : Counters → Counters
one_load_more c = record c { load = c.load + 1 }

abbrev pub one_revision_more : StoredPlan → StoredPlan
one_revision_more p = record p { revisions = p.revisions + 1 }

-- the key of a row of a load
abbrev pub IsLoadKey : ℕ → List ℕ → Type 0
IsLoadKey load key = ((place : ℕ) × (place < 2 ^ 32) × (key ≡ key_of (block load place)))
    ⊎ ((place : ℕ) × (place < 2 ^ 32) × (key ≡ key_of (pair load place)))
