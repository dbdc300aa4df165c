-- What holds of all rows.
use Rattle.std.specs.{FinMap.{FinMap, get, insert, remove}, List.slice_get, Prelude.{◌≡◌, ◌<◌, ◌≤◌, ◌*◌, ◌^◌, ◌+◌, ℕ, List, [], ◌∷◌, length, All, Some}}
use Rattle.desk_model.specs.{claim.{Desk.{Desk, Plan, name_cmp}, Geography.GeographyModel, GeographyModels.IsGeographyModel, Name.IsPlanName}, declared.block.BlockRow.BlockRow}
use Rattle.{desk_model.specs.declared.{geography.Pair.Pair, kind.Kind.Kind}, desk_store_rows.specs.{Changes.{IsRevised, desk_with, plan_row_of, with_revision}, Rows.SameTag}}
use Rattle.desk_store_rows.specs.{ChunkRows.{chunk_rows, IsFreeChunk}, Staging.desk_without, claim.{DeskRows.{HasPlan, IsDesk, most_revisions}, Puts.put_rows, Rows.KeyMap}}
use Rattle.desk_store_rows.specs.claim.{GeographyRows.{IsBlockRow, IsStaged, geography_rows, neighbours_bytes}, Keys.{key_of, block, named, pair, retired, seal}}
use Rattle.desk_store_rows.specs.claim.{RevisionRows.HasChunk, Values.{block_bytes, plan_bytes, seal_bytes}}

-- a row that is put or removed leaves the rows of every other tag
pub record OtherTagsStay (m : KeyMap) (tag other : ℕ) (rest : List ℕ) : Type 0 where
  pub put : (value : List ℕ) → SameTag tag m (insert m (other ∷ rest) value)
  pub removed : SameTag tag m (remove m (other ∷ rest))

abbrev pub TagsStay : Type 0
TagsStay = (m : KeyMap) (tag other : ℕ) (rest : List ℕ) → (tag ≡ other → ⊥) → OtherTagsStay m tag other rest

-- rows of counters, of retired plans and of loads that were begun say nothing of the desk
abbrev pub DeskStays : Type 0
DeskStays = (m n : KeyMap) (d : Desk) → SameTag 80 m n → SameTag 82 m n → SameTag 83 m n → SameTag 103 m n → SameTag 107 m n → IsDesk m d → IsDesk n d

-- a chunk whose rows are put under a free number is there, and those under other numbers stay
pub record IsChunkPut (m : KeyMap) (number : ℕ) (districts : List ℕ) : Type 0 where
  pub there : 0 < length districts → All (λ d. d < 2 ^ 16) districts → IsFreeChunk m number
      → HasChunk (put_rows m (chunk_rows number districts)) number districts
  pub others : (other : ℕ) (kept : List ℕ) → (other ≡ number → ⊥) → HasChunk m other kept
      → HasChunk (put_rows m (chunk_rows number districts)) other kept

abbrev pub ChunksArePut : Type 0
ChunksArePut = (m : KeyMap) (number : ℕ) (districts : List ℕ) → number < 2 ^ 64 → length districts ≤ 512 * 2 ^ 16 → IsChunkPut m number districts

-- a map of rows holds one desk at most
abbrev pub DeskIsOne : Type 0
DeskIsOne = (m : KeyMap) (d e : Desk) → IsDesk m d → IsDesk m e → d ≡ e

-- A plan's row under a name makes the desk with that plan and no revision; without the row, and with the mark that the number was
-- taken away, it is the desk without the plan.
pub record PlanRowsTell (m : KeyMap) (g : GeographyModel) (plans : FinMap name_cmp Plan) (name : List ℕ) : Type 0 where
  pub created : (kind : Kind) (districts number : ℕ) → IsPlanName name → number < 2 ^ 64 → districts < 2 ^ 16
      → IsDesk (insert m (key_of (named name)) (plan_bytes (plan_row_of number (record { kind = kind; n = districts; revisions = [] }))))
      (desk_with g (insert plans name (record { kind = kind; n = districts; revisions = [] })))
  pub taken_away : (number : ℕ) → IsDesk (insert (remove m (key_of (named name))) (key_of (retired number)) []) (desk_with g (remove plans name))

abbrev pub PlansComeAndGo : Type 0
PlansComeAndGo = (m : KeyMap) (g : GeographyModel) (plans : FinMap name_cmp Plan) (name : List ℕ) → IsDesk m (desk_with g plans) → PlanRowsTell m g plans name

-- rows that add one revision of a plan, and keep every other of every plan, make the desk with that revision
abbrev pub RevisionsAreAdded : Type 0
RevisionsAreAdded = (m n : KeyMap) (g : GeographyModel) (plans : FinMap name_cmp Plan) (name : List ℕ) (number : ℕ) (p : Plan)
    (districts : List ℕ) → IsDesk m (desk_with g plans) → get plans name ≡ Some p → HasPlan m g name number p
    → length districts ≡ length g.blocks → length p.revisions < most_revisions → IsRevised m n g plans name number p districts
    → IsDesk n (desk_with g (insert plans name (with_revision p districts)))

-- Rows of a load come one after the other, blocks before pairs.
pub record RowsAreStaged (m : KeyMap) (load : ℕ) (g : GeographyModel) : Type 0 where
  pub block_row : (done : ℕ) (b : BlockRow) → IsStaged m load g done → done < 2 ^ 32 → slice_get g.blocks done ≡ Some b
      → IsBlockRow b → IsStaged (insert m (key_of (block load done)) (block_bytes b)) load g (done + 1)
  pub pair_row : (place : ℕ) (p : Pair) → IsStaged m load g (length g.blocks + place) → place < 2 ^ 32
      → slice_get g.pairs place ≡ Some p → IsStaged
      (insert m (key_of (pair load place)) (neighbours_bytes p)) load g (length g.blocks + place + 1)

abbrev pub LoadsAreStaged : Type 0
LoadsAreStaged = (m : KeyMap) (load : ℕ) (g : GeographyModel) → load < 2 ^ 64 → RowsAreStaged m load g

-- They are no part of the desk, until the load is sealed: then they are its geography.
pub record IsUnseen (m : KeyMap) (plans : FinMap name_cmp Plan) : Type 0 where
  pub staged : (rest value : List ℕ) → IsDesk (insert m (103 ∷ rest) value) (desk_without plans)
  pub sealed : (load : ℕ) (g : GeographyModel) → IsStaged m load g (geography_rows g) → IsGeographyModel g → load < 2 ^ 64 → length g.pairs < 2 ^ 32
      → IsDesk (insert m (key_of seal) (seal_bytes (record { load = load; blocks = length g.blocks; pairs = length g.pairs }))) (desk_with g plans)

abbrev pub LoadsAreUnseen : Type 0
LoadsAreUnseen = (m : KeyMap) (plans : FinMap name_cmp Plan) → IsDesk m (desk_without plans) → IsUnseen m plans
