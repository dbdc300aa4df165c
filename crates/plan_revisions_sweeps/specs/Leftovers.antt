-- Which turns a sweep takes, and what is left once they are taken.
use Rattle.std.specs.Prelude.{◌≡◌, ◌<◌, ◌+◌, ◌^◌, ℕ, List, [], ◌∷◌, Option, Some, None}
use Rattle.desk_store_rows.specs.{TurnLaws.{Turn, goes, lets_go, rows_in, take_turns, AreTurns}, claim.{Keys.{RowKey, retired, begun, block, pair}, Rows.{KeyMap, Has}}}

-- a row that a load staged, or its mark
abbrev pub IsOfLoad : ℕ → RowKey → Type 0
IsOfLoad load (begun other) = other ≡ load
IsOfLoad load (block other place) = other ≡ load
IsOfLoad load (pair other place) = other ≡ load
IsOfLoad load _ = ⊥

-- or no load
abbrev pub IsNoLoads : RowKey → Type 0
IsNoLoads row = (load : ℕ) → IsOfLoad load row → ⊥

-- the rows of the load that is under way are spared
abbrev pub IsSpared : Option ℕ → RowKey → Type 0
IsSpared None row = ⊥
IsSpared (Some load) row = IsOfLoad load row

-- none of a turn is
abbrev pub IsApart : Option ℕ → Turn → Type 0
IsApart running (goes row) = IsSpared running row → ⊥
IsApart running (lets_go plan number count) = Unit {0}

abbrev pub AreNotSpared : Option ℕ → List Turn → Type 0
AreNotSpared running [] = Unit {0}
AreNotSpared running (turn ∷ turns) = IsApart running turn × AreNotSpared running turns

-- how many rows turns change or take out
abbrev pub rows_of : List Turn → ℕ
rows_of [] = 0
rows_of (turn ∷ turns) = rows_in turn + rows_of turns

-- No mark is left of a plan that was taken away, nor of a load that was begun, but for the one that is under way. So each part of a
-- revision and each piece of a chunk is of a plan that is there, and each row of another load is the geography's.
pub record IsSweptClean (running : Option ℕ) (m : KeyMap) : Type 0 where
  pub plans : (plan : ℕ) → plan < 2 ^ 64 → Has m (retired plan) [] → ⊥
  pub loads : (load : ℕ) → load < 2 ^ 64 → (IsSpared running (begun load) → ⊥) → Has m (begun load) [] → ⊥

-- so many rows were changed or taken out by turns, one after the other, and none of them was spared
pub record IsSweptBy (running : Option ℕ) (count : ℕ) (m n : KeyMap) : Type 0 where
  pub turns : List Turn
  pub count_is : rows_of turns ≡ count
  pub left : AreTurns m turns
  pub apart : AreNotSpared running turns
  pub rest : n ≡ take_turns m turns
