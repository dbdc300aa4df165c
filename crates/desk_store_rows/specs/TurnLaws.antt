-- Rows that nothing needs any more where it is told which plans hold a chunk: taken out turn by turn, they leave the desk as it is and
-- the rows tidy.
use Rattle.std.specs.{FinMap.remove, Prelude.{true, ◌≡◌, ◌⊎◌, ◌<◌, ◌+◌, ◌^◌, ℕ, suc, List, [], ◌∷◌, Contains}}
use Rattle.{desk_model.specs.claim.Desk.Desk, desk_store_rows.specs.{ChunkRows.IsFreeChunk, Holders.released, SweepLaws.IsSwept, claim.{DeskRows.IsDesk, Tidy.{IsNamedBy, Tidy}}}}
use Rattle.desk_store_rows.specs.claim.{Holders.{IsHeld, holder_count_row}, Keys.{RowKey, key_of, Fits, retired, begun, holding, holder_count, part, block, pair, chunk}}
use Rattle.desk_store_rows.specs.claim.{Lists.{chunks_bytes, AreChunks}, Rows.{KeyMap, row_in, Has, Lacks}}

-- some plan holds the chunk
abbrev pub IsShared : KeyMap → ℕ → Type 0
IsShared m number = (value : List ℕ) × Has m (holder_count number) value

-- a part of a revision whose chunks the plan doesn't hold any more: each has no piece left, or another plan holds it
pub record IsLetGo (m : KeyMap) (plan revision index : ℕ) : Type 0 where
  pub numbers : List ℕ
  pub chunks : AreChunks numbers
  pub row : Has m (part plan revision index) (chunks_bytes numbers)
  pub let_go : (number : ℕ) → Contains numbers number → Lacks m (holding plan number)
  pub gone : (number : ℕ) → Contains numbers number → IsFreeChunk m number ⊎ IsShared m number

-- A row that nothing needs. Of a plan that was taken away: a piece of a chunk that it names and that no plan holds; a part whose chunks
-- it has let go, and that have no piece left or are held by another; its mark, where no part is left. Of a load that was begun: a row of
-- it; its mark, where no row is left.
abbrev pub IsUnneeded : KeyMap → RowKey → Type 0
IsUnneeded m (retired plan) = Has m (retired plan) [] × ((revision index : ℕ) → Fits (part plan revision index) → Lacks m (part plan revision index))
IsUnneeded m (begun load) = Has m (begun load) [] × ((place : ℕ) → place < 2 ^ 32 → Lacks m (block load place) × Lacks m (pair load place))
IsUnneeded m (part plan revision index) = Has m (retired plan) [] × IsLetGo m plan revision index
IsUnneeded m (block load place) = Has m (begun load) []
IsUnneeded m (pair load place) = Has m (begun load) []
IsUnneeded m (chunk number piece) = (plan : ℕ) × Has m (retired plan) [] × IsNamedBy m plan number × Lacks m (holder_count number)
IsUnneeded m _ = ⊥

-- A plan that was taken away holds a chunk, which so many others hold too: it can let it go.
pub record IsUnneededHolding (m : KeyMap) (plan number count : ℕ) : Type 0 where
  pub plan_fits : plan < 2 ^ 64
  pub fits : number < 2 ^ 64
  pub count_fits : count + 1 < 2 ^ 64
  pub mark : Has m (retired plan) []
  pub held : IsHeld m plan number
  pub counted_by_holders : row_in m (holder_count number) ≡ holder_count_row (suc count)

-- one turn of a sweep: a row goes, or a plan lets a chunk go, which changes two
pub data Turn : Type 0 where
  goes : RowKey → Turn
  lets_go : (plan number count : ℕ) → Turn

abbrev pub rows_in : Turn → ℕ
rows_in (goes row) = 1
rows_in (lets_go plan number count) = 2

abbrev pub CanTurn : KeyMap → Turn → Type 0
CanTurn m (goes row) = Fits row × IsUnneeded m row
CanTurn m (lets_go plan number count) = IsUnneededHolding m plan number count

abbrev pub turned : KeyMap → Turn → KeyMap
turned m (goes row) = remove m (key_of row)
turned m (lets_go plan number count) = released m plan number count

-- turns that come one after the other
abbrev pub take_turns : KeyMap → List Turn → KeyMap
take_turns m [] = m
take_turns m (turn ∷ turns) = take_turns (turned m turn) turns

-- each takes what nothing needs by then
abbrev pub AreTurns : KeyMap → List Turn → Type 0
AreTurns m [] = Unit {0}
AreTurns m (turn ∷ turns) = CanTurn m turn × AreTurns (turned m turn) turns

-- in the new version
abbrev pub TurnsAreSwept : Type 0
TurnsAreSwept = (m : KeyMap) (tidy : Tidy m) → tidy.new ≡ true → (d : Desk) (turns : List Turn)
    → IsDesk m d → AreTurns m turns → IsSwept d tidy.next tidy.new (take_turns m turns)
