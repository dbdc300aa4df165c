-- Rows that are looked for.
use Rattle.{std.specs.{FinMap.get, List.starts_with, Ordering.is_gt}, btree_scan.specs.declared.rows.Row.Row, desk_store_rows.specs.{ChunkRows.IsFreeChunk, claim.Holders.IsHeld}}
use Rattle.std.specs.Prelude.{◌≡◌, ◌⊎◌, ◌<◌, ◌≤◌, ◌^◌, ℕ, Bool, true, false, nat_eq, List, [], ◌∷◌, Option, Some, None, Result, Ok, Err, Contains}
use Rattle.desk_store_rows.specs.{TurnLaws.{IsShared, IsUnneeded}, claim.{Keys.{RowKey, key_of, Fits, counters, retired, begun, holding, holder_count, chunk}, Tidy.Tidy}}
use Rattle.{desk_store_rows.specs.claim.Rows.{KeyMap, Has, Lacks}, page_btree.specs.{gets.declared.error.TreeError.{TreeError, TheVariants.NotAStore}, node.Walking.IsAhead}}
use Rattle.{page_btree.specs.node.claim.{Entries.Entry, Places.key_cmp}, plan_revisions_sweeps.specs.{Leftovers.{IsNoLoads, IsSpared, IsSweptClean}, declared.leftovers.Left.Left}}
use Rattle.plan_revisions_sweeps.specs.declared.pieces.PieceGap.{PieceGap}
use Rattle.plan_revisions_sweeps.specs.declared.leftovers.Left.TheVariants as left

-- a row whose key begins with a prefix, where there is one
pub record IsUnder (prefix : List ℕ) (row : Row) (m : KeyMap) : Type 0 where
  pub there : get m row.key ≡ Some row.value
  pub under : starts_with nat_eq row.key prefix ≡ true

abbrev pub IsFirst : List ℕ → Row → KeyMap → Bool → Type 0
IsFirst prefix row m true = IsUnder prefix row m
IsFirst prefix row m false = (key : List ℕ) → starts_with nat_eq key prefix ≡ true → get m key ≡ None

-- one without a value, under another key than the one that is spared
pub record IsMark (prefix spared : List ℕ) (row : Row) (m : KeyMap) : Type 0 where
  pub there : get m row.key ≡ Some []
  pub under : starts_with nat_eq row.key prefix ≡ true
  pub apart : row.key ≡ spared → ⊥

abbrev pub IsFirstMark : List ℕ → List ℕ → Row → KeyMap → Bool → Type 0
IsFirstMark prefix spared row m true = IsMark prefix spared row m
IsFirstMark prefix spared row m false = (key : List ℕ) → starts_with nat_eq key prefix ≡ true → (key ≡ spared → ⊥) → get m key ≡ Some [] → ⊥

-- the mark that is spared; that of no load is no load's
abbrev pub spared_key : Option ℕ → List ℕ
spared_key None = key_of counters
spared_key (Some load) = key_of (begun load)

-- a piece that is left of one of these chunks, which no plan holds
pub record IsPieceOf (numbers : List ℕ) (key : List ℕ) (m : KeyMap) : Type 0 where
  pub number : ℕ
  pub piece : ℕ
  pub among : Contains numbers number
  pub fits : Fits (chunk number piece)
  pub key_is : key ≡ key_of (chunk number piece)
  pub unshared : Lacks m (holder_count number)

-- the chunk has no piece, or another plan holds it
abbrev pub IsDone : KeyMap → ℕ → Type 0
IsDone m number = IsFreeChunk m number ⊎ IsShared m number

abbrev pub IsFirstPiece : List ℕ → List ℕ → KeyMap → Bool → Type 0
IsFirstPiece numbers key m true = IsPieceOf numbers key m
IsFirstPiece numbers key m false = (number : ℕ) → Contains numbers number → IsDone m number

-- the first key of the map that isn't below a key, or none where there is none
pub record IsLeast (key found : List ℕ) (m : KeyMap) : Type 0 where
  pub value : List ℕ
  pub there : get m found ≡ Some value
  pub from : is_gt (key_cmp key found) ≡ false
  pub first : (other value : List ℕ) → get m other ≡ Some value → is_gt (key_cmp key other) ≡ false → is_gt (key_cmp found other) ≡ false

abbrev pub IsFirstFrom : List ℕ → List ℕ → KeyMap → Bool → Type 0
IsFirstFrom key found m true = IsLeast key found m
IsFirstFrom key found m false = (other value : List ℕ) → get m other ≡ Some value → is_gt (key_cmp key other) ≡ false → ⊥

-- the key of the entry that lies there was copied, or none lies there
abbrev pub IsCopiedKey : List ℕ → ℕ → List ℕ → Result Bool TreeError → Type 0
IsCopiedKey page at found (Ok is) = (is ≡ true) × ((e : Entry) (es : List Entry) → IsAhead page at (e ∷ es) → found ≡ e.0)
IsCopiedKey page at found (Err e) = (e ≡ NotAStore) × ((e : Entry) (es : List Entry) → IsAhead page at (e ∷ es) → ⊥)

-- a key of a piece of the chunk
pub record IsPieceKey (number : ℕ) (key : List ℕ) : Type 0 where
  pub piece : ℕ
  pub fits : Fits (chunk number piece)
  pub key_is : key ≡ key_of (chunk number piece)

-- no chunk from one number on and below another has a piece
abbrev pub AreFree : ℕ → ℕ → KeyMap → Type 0
AreFree from to m = (number : ℕ) → from ≤ number → number < to → number < 2 ^ 64 → IsFreeChunk m number

-- the first chunk from a number on that has one, or none
abbrev pub IsNextChunk : ℕ → List ℕ → KeyMap → Option ℕ → Type 0
IsNextChunk number key m None = AreFree number (2 ^ 64) m
IsNextChunk number key m (Some next) = (number ≤ next) × IsPieceKey next key × AreFree number next m

-- where a gap ends at a chunk that has one, its key is this
abbrev pub EndsAt : Bool → ℕ → List ℕ → Type 0
EndsAt true to key = IsPieceKey to key
EndsAt false to key = Unit {0}

abbrev pub IsGap : PieceGap → List ℕ → KeyMap → Type 0
IsGap gap key m = AreFree gap.from gap.to m × EndsAt gap.ends gap.to key

abbrev pub IsSought : ℕ → PieceGap → List ℕ → KeyMap → Bool → Type 0
IsSought number gap key m true = IsPieceKey number key × IsGap gap key m
IsSought number gap key m false = IsFreeChunk m number × IsGap gap key m

-- a piece of it is left that no plan holds, or not
abbrev pub IsSoughtLeft : ℕ → PieceGap → List ℕ → KeyMap → Bool → Type 0
IsSoughtLeft number gap key m true = IsPieceKey number key × Lacks m (holder_count number)
IsSoughtLeft number gap key m false = IsDone m number × IsGap gap key m

-- the key of a row that nothing needs
pub record IsLeftKey (m : KeyMap) (key : List ℕ) (apart : RowKey → Type 0) : Type 0 where
  pub row : RowKey
  pub fits : Fits row
  pub key_is : key ≡ key_of row
  pub left : IsUnneeded m row
  pub is_apart : apart row

-- a chunk that a plan holds which was taken away
pub record IsLeftHolding (m : KeyMap) (plan number : ℕ) : Type 0 where
  pub fits : Fits (holding plan number)
  pub mark : Has m (retired plan) []
  pub held : IsHeld m plan number

-- what was found is left over
abbrev pub IsLeft : KeyMap → List ℕ → (RowKey → Type 0) → Left → Type 0
IsLeft m key apart left.Row = IsLeftKey m key apart
IsLeft m key apart (left.Holding plan number) = IsLeftHolding m plan number

abbrev pub IsPlanLeft : List ℕ → KeyMap → Option Left → Type 0
IsPlanLeft key m (Some found) = IsLeft m key IsNoLoads found
IsPlanLeft key m None = (plan : ℕ) → plan < 2 ^ 64 → Has m (retired plan) [] → ⊥

abbrev pub IsLoadLeft : Option ℕ → List ℕ → KeyMap → Bool → Type 0
IsLoadLeft running key m true = IsLeftKey m key (λ row. IsSpared running row → ⊥)
IsLoadLeft running key m false = (load : ℕ) → load < 2 ^ 64 → (IsSpared running (begun load) → ⊥) → Has m (begun load) [] → ⊥

abbrev pub IsNextLeft : Option ℕ → List ℕ → KeyMap → Option Left → Type 0
IsNextLeft running key m (Some found) = IsLeft m key (λ row. IsSpared running row → ⊥) found
IsNextLeft running key m None = IsSweptClean running m

-- the mark of a plan or of a load is there
abbrev pub HasPlanMark : ℕ → KeyMap → Type 0
HasPlanMark plan m = Tidy m × Has m (retired plan) []

abbrev pub HasLoadMark : ℕ → KeyMap → Type 0
HasLoadMark load m = Tidy m × Has m (begun load) []

-- the plan holds no chunk
abbrev pub HoldsNone : ℕ → KeyMap → Type 0
HoldsNone plan m = (number : ℕ) → Lacks m (holding plan number)
