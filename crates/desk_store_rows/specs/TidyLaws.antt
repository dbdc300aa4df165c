-- What keeps the rows tidy.
use Rattle.std.specs.{FinMap.{FinMap, empty, get, insert, remove}, Prelude.{Bool, false, ◌≡◌, ◌<◌, ◌≤◌, ◌+◌, ◌*◌, ◌^◌, ℕ, List, [], length, get_or, All, Some}}
use Rattle.{desk_model.specs.{claim.{Desk.{Plan, name_cmp}, Geography.GeographyModel, Name.IsPlanName, Ranges.cut}, declared.kind.Kind.Kind}, desk_store_rows.specs.Puts.rows_told}
use Rattle.desk_store_rows.specs.{Changes.{desk_with, plan_row_of, with_revision}, ChunkRows.IsFreeChunk, Steps.{one_plan_more, chunks_more, one_load_more, IsLoadKey}}
use Rattle.desk_store_rows.specs.{RevisionSteps.{AreItsChunks, AddsRevision, IsChunkList, AreKept, IsDrawn, rows_of_revision}, Tidy.TidyWith, claim.GeographyRows.IsStaged}
use Rattle.desk_store_rows.specs.claim.{DeskRows.{HasPlan, IsDesk, most_revisions}, Puts.{Row, put_rows}, RevisionRows.{HasChunk, NamesChunks, HasRevision}}
use Rattle.desk_store_rows.specs.claim.{Keys.{key_of, Fits, counters, retired, begun, holding, holder_count, named, part, seal, block, pair}, Rows.{KeyMap, Has, Lacks}}
use Rattle.desk_store_rows.specs.claim.{Tidy.{no_numbers, IsNext, CountersFit, IsNumbered, IsLoad, Tidy}, Values.{counters_bytes, plan_bytes, seal_bytes}}
use Rattle.desk_store_rows.specs.declared.value.{Counters.Counters, SealRow.SealRow, StoredPlan.StoredPlan}

-- a map without rows is tidy, and nothing was numbered
abbrev pub NothingIsTidy : Type 0
NothingIsTidy = TidyWith empty no_numbers false

-- the row of counters tells one triple of numbers
abbrev pub NextIsOne : Type 0
NextIsOne = (m : KeyMap) (a b : Counters) → CountersFit a → CountersFit b → IsNext m a → IsNext m b → a ≡ b

-- No row stands under a number that comes next or later, and none under a revision that a plan doesn't have yet.
pub record AreFree (m : KeyMap) (next : Counters) : Type 0 where
  pub chunks : (number : ℕ) → next.chunk ≤ number → number < 2 ^ 64 → IsFreeChunk m number
  pub holdings : (plan number : ℕ) → next.chunk ≤ number → Fits (holding plan number) → Lacks m (holding plan number)
  pub holder_counts : (number : ℕ) → next.chunk ≤ number → number < 2 ^ 64 → Lacks m (holder_count number)
  pub holders : (plan number : ℕ) → next.plan ≤ plan → Fits (holding plan number) → Lacks m (holding plan number)
  pub marks : (plan : ℕ) → next.plan ≤ plan → plan < 2 ^ 64 → Lacks m (retired plan)
  pub parts : (plan revision index : ℕ) → next.plan ≤ plan → Fits (part plan revision index) → Lacks m (part plan revision index)
  pub revisions : (name : List ℕ) (p : StoredPlan) → p.number < 2 ^ 64 → p.revisions < 2 ^ 32 → Has m (named name) (plan_bytes p)
      → (revision index : ℕ) → p.revisions < revision → Fits (part p.number revision index) → Lacks m (part p.number revision index)
  pub loads : (load : ℕ) → next.load ≤ load → load < 2 ^ 64 → Lacks m (begun load)
  pub blocks : (load place : ℕ) → next.load ≤ load → Fits (block load place) → Lacks m (block load place)
  pub pairs : (load place : ℕ) → next.load ≤ load → Fits (pair load place) → Lacks m (pair load place)

abbrev pub NumbersAreFree : Type 0
NumbersAreFree = (m : KeyMap) (tidy : Tidy m) → AreFree m tidy.next

-- a plan's row is put under a number of its own, or gives way to the mark that its number was taken away
pub record PlansLeaveTidy (m : KeyMap) (next : Counters) (new : Bool) (name : List ℕ) : Type 0 where
  pub created : (kind : Kind) (districts : ℕ) → IsPlanName name → Lacks m (named name) → next.plan + 1 < 2 ^ 64
      → TidyWith (insert (insert m (key_of (named name)) (plan_bytes (record {
        number = next.plan;
        kind = kind;
        districts = districts;
        revisions = 0;
      }))) (key_of counters) (counters_bytes (one_plan_more next))) (one_plan_more next) new
  pub taken_away : (number : ℕ) → IsNumbered m name number → TidyWith (insert (remove m (key_of (named name))) (key_of (retired number)) []) next new

abbrev pub PlansComeAndGoTidily : Type 0
PlansComeAndGoTidily = (m : KeyMap) (tidy : Tidy m) (name : List ℕ) → PlansLeaveTidy m tidy.next tidy.new name

-- a load is begun, with no row yet, its rows are put, and it is sealed where none was
pub record LoadsLeaveTidy (m : KeyMap) (next : Counters) (new : Bool) : Type 0 where
  pub started : next.load + 1 < 2 ^ 64 → TidyWith (insert (insert m (key_of (begun next.load)) [])
      (key_of counters) (counters_bytes (one_load_more next))) (one_load_more next) new
  pub unstaged : (g : GeographyModel) → IsStaged (insert (insert m (key_of (begun next.load)) [])
      (key_of counters) (counters_bytes (one_load_more next))) next.load g 0
  pub staged : (load : ℕ) (rows : List Row) → load < 2 ^ 64 → IsLoad m load
      → All (λ row. IsLoadKey load row.0) rows → TidyWith (put_rows m rows) next new
  pub told : (load : ℕ) (row : ℕ → Row) (count : ℕ) → load < 2 ^ 64 → IsLoad m load
      → ((k : ℕ) → k < count → IsLoadKey load (row k).0) → TidyWith (put_rows m (rows_told row count)) next new
  pub sealed : (s : SealRow) → s.load < 2 ^ 64 → Lacks m seal → Has m (begun s.load) []
      → TidyWith (remove (insert m (key_of seal) (seal_bytes s)) (key_of (begun s.load))) next new

abbrev pub LoadsAreLoadedTidily : Type 0
LoadsAreLoadedTidily = (m : KeyMap) (tidy : Tidy m) → LoadsLeaveTidy m tidy.next tidy.new

-- A plan gets one revision more: in whatever order its rows were put, and as they are listed.
pub record RevisionLeavesTidy (m : KeyMap) (next : Counters) (new : Bool) (name : List ℕ) (p : StoredPlan) : Type 0 where
  pub added : (n : KeyMap) (given : ℕ) (numbers : List ℕ) → next.chunk + given < 2 ^ 64 → AreItsChunks m next given p.number numbers
      → AddsRevision m n new next given name p numbers → TidyWith n (chunks_more next given) new
  pub put : (lists : List (List ℕ)) (numbers : List ℕ) → next.chunk + length lists < 2 ^ 64
      → length numbers ≤ 128 * 2 ^ 8 → All IsChunkList lists → AreItsChunks m next (length lists) p.number numbers
      → AddsRevision m (put_rows m (rows_of_revision new next name p lists numbers)) new next (length lists) name p numbers

abbrev pub RevisionsAreAddedTidily : Type 0
RevisionsAreAddedTidily = (m : KeyMap) (tidy : Tidy m) (name : List ℕ) (p : StoredPlan) → p.number < 2 ^ 64
    → p.revisions + 1 < 2 ^ 32 → Has m (named name) (plan_bytes p) → RevisionLeavesTidy m tidy.next tidy.new name p

-- The desk with the revision, and tidy rows.
pub record MakesRevision (g : GeographyModel) (plans : FinMap name_cmp Plan) (name : List ℕ)
    (p : Plan) (districts : List ℕ) (next : Counters) (new : Bool) (n : KeyMap) : Type 0 where
  pub desk : IsDesk n (desk_with g (insert plans name (with_revision p districts)))
  pub tidy : TidyWith n next new

-- whichever way its rows were put, where its new chunks are there
pub record RevisionMakesDesk (m : KeyMap) (next : Counters) (new : Bool) (g : GeographyModel) (plans : FinMap name_cmp Plan)
    (name : List ℕ) (number : ℕ) (p : Plan) (districts : List ℕ) (lists : List (List ℕ)) (numbers : List ℕ) : Type 0 where
  pub added : (n : KeyMap) → AddsRevision m n new next (length lists) name (plan_row_of number p) numbers
      → ((place : ℕ) → place < length lists → HasChunk n (next.chunk + place) (get_or lists place []))
      → MakesRevision g plans name p districts (chunks_more next (length lists)) new n
  pub put : MakesRevision g plans name p districts (chunks_more next (length lists)) new
      (put_rows m (rows_of_revision new next name (plan_row_of number p) lists numbers))

abbrev pub RevisionsMakeDesks : Type 0
RevisionsMakeDesks = (m : KeyMap) (tidy : Tidy m) (g : GeographyModel) (plans : FinMap name_cmp Plan)
    (name : List ℕ) (number : ℕ) (p : Plan) (districts : List ℕ) (lists : List (List ℕ)) (numbers : List ℕ)
    → IsDesk m (desk_with g plans) → get plans name ≡ Some p → HasPlan m g name number p
    → length districts ≡ length g.blocks → length p.revisions < most_revisions
    → tidy.next.chunk + length lists < 2 ^ 64 → IsDrawn m tidy.next number lists numbers (cut g districts)
    → RevisionMakesDesk m tidy.next tidy.new g plans name number p districts lists numbers

-- the chunks of a revision can be kept by a later one
abbrev pub ChunksAreKept : Type 0
ChunksAreKept = (m : KeyMap) (plan revision : ℕ) (numbers : List ℕ) (counties : List (List ℕ)) → plan < 2 ^ 64 → revision < 2 ^ 32
    → NamesChunks m plan revision numbers → HasRevision m plan revision counties → AreKept m plan numbers counties
