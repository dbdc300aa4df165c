-- What no promise rests on, beside claim/PlanRows.antt.
use Rattle.std.specs.Prelude.{◌<◌, ℕ, List, [], ◌∷◌, Option}
use Rattle.{desk_model.specs.declared.kind.Kind.Kind, desk_store_pages.specs.Reading.StandsAs, desk_store_rows.specs.Steps.{one_plan_more, chunks_more, one_revision_more}}
use Rattle.desk_store_rows.specs.claim.{DeskRows.most_revisions, Keys.{key_of, counters, named}, Puts.Row, Rows.KeyMap, Values.{counters_bytes, plan_bytes}}
use Rattle.{desk_store_rows.specs.declared.value.{Counters.Counters, StoredPlan.StoredPlan}, plan_revisions.specs.claim.PlanRows.HasChunkNumbers}

-- the row under a plan's name, or none
abbrev pub IsFound : KeyMap → List ℕ → Option StoredPlan → Type 0
IsFound m name found = StandsAs plan_bytes (key_of (named name)) m found

-- under the name stands a plan's row, or nothing
abbrev pub HasRow : List ℕ → KeyMap → Type 0
HasRow name m = (found : Option StoredPlan) × IsFound m name found

-- a plan's row, and then that of the numbers
abbrev pub plan_rows : List ℕ → StoredPlan → Counters → List Row
plan_rows name row next = (key_of (named name), plan_bytes row) ∷ (key_of counters, counters_bytes next) ∷ []

-- A plan is created: it gets the number that is next, and has no revision.
abbrev pub created_rows : List ℕ → Kind → ℕ → Counters → List Row
created_rows name kind districts next = plan_rows name
    (record { number = next.plan; kind = kind; districts = districts; revisions = 0 }) (one_plan_more next)

-- it has room for a revision, and numbers are left for so many chunks
pub record CanRevise (row : StoredPlan) (used : ℕ) (next : Counters) : Type 0 where
  pub room : row.revisions < most_revisions
  pub left : HasChunkNumbers used next

-- It gets one revision more, which took so many chunks.
abbrev pub revised_rows : List ℕ → StoredPlan → ℕ → Counters → List Row
revised_rows name row used next = plan_rows name (one_revision_more row) (chunks_more next used)
