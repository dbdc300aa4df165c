-- Rows that belong to a store: what a row is of is there, and its value is one that such a row has.
use Rattle.std.specs.{FinMap.get as row_at, Prelude.{◌≡◌, ◌⊎◌, ◌<◌, ◌+◌, ◌*◌, ◌^◌, ℕ, Bool, true, false, List, [], length, get_or, Option, Some, None, IfSome}}
use Rattle.{btree_scan.specs.declared.rows.Row.Row, desk_model.specs.declared.{block.BlockRow.BlockRow, ranges.CountyRange.CountyRange}, page_btree.specs.node.claim.Entries.Entry}
use Rattle.desk_store_rows.specs.claim.Keys.{RowKey, key_of, Fits, counters, retired, begun, holding, holder_count, named, part, seal, version, block, pair, chunk}
use Rattle.{desk_store_rows.specs.claim.{Lists.{AreChunks, chunks_bytes}, Rows.{KeyMap, Has}, Values.{block_bytes, pair_bytes}}, store_verification_rows.specs.Wholes.AreWhole}
use Rattle.store_verification_rows.specs.declared.wrong.{Wrong.Wrong, WrongRow.WrongRow}

abbrev pub no_county : CountyRange
no_county = record { first = 0; count = 0 }

-- the county at a place has blocks for the piece, of 512 each
pub record HasPiece (ranges : List CountyRange) (county piece : ℕ) : Type 0 where
  pub within : county < length ranges
  pub some : 512 * piece < (get_or ranges county no_county).count

-- one of the chunks of a part is this, for a county that has the piece
pub record NamesAt (ranges : List CountyRange) (numbers : List ℕ) (index number piece : ℕ) : Type 0 where
  pub place : ℕ
  pub within : place < length numbers
  pub is : get_or numbers place 0 ≡ number
  pub piece_is : HasPiece ranges (128 * index + place) piece

-- the row is a part of a revision of the plan, or of any plan where none is told, that names the chunk so
pub record IsNaming (ranges : List CountyRange) (of : Option ℕ) (number piece : ℕ) (e : Entry) : Type 0 where
  pub plan : ℕ
  pub revision : ℕ
  pub index : ℕ
  pub fits : Fits (part plan revision index)
  pub key : e.0 ≡ key_of (part plan revision index)
  pub told : IfSome of (λ p. p ≡ plan)
  pub numbers : List ℕ
  pub chunks : AreChunks numbers
  pub value : e.1 ≡ chunks_bytes numbers
  pub at : NamesAt ranges numbers index number piece

abbrev pub IsNamed : List CountyRange → Option ℕ → (number piece : ℕ) → KeyMap → Type 0
IsNamed ranges of number piece m = (e : Entry) × (row_at m e.0 ≡ Some e.1) × IsNaming ranges of number piece e

abbrev pub IsNamedAs : List CountyRange → Option ℕ → (number piece : ℕ) → KeyMap → Bool → Type 0
IsNamedAs ranges of number piece m true = IsNamed ranges of number piece m
IsNamedAs ranges of number piece m false = IsNamed ranges of number piece m → ⊥

-- A mark says nothing. A plan names the chunk that it holds. A part of a revision is of counties that are there. A block and a pair of
-- neighbours are ones, also of a load that was begun. A plan names the chunk of a piece, for a county that has this piece.
abbrev pub Belongs : List CountyRange → KeyMap → RowKey → List ℕ → Type 0
Belongs ranges m counters value = Unit {0}
Belongs ranges m (retired plan) value = value ≡ []
Belongs ranges m (begun load) value = value ≡ []
Belongs ranges m (holding plan number) value = IsNamed ranges (Some plan) number 0 m
Belongs ranges m (holder_count number) value = Unit {0}
Belongs ranges m (named name) value = Unit {0}
Belongs ranges m (part plan revision index) value = 128 * index < length ranges
Belongs ranges m seal value = Unit {0}
Belongs ranges m version value = Unit {0}
Belongs ranges m (block load place) value = (b : BlockRow) × (b.id < 10 ^ 15) × (block_bytes b ≡ value)
Belongs ranges m (pair load place) value = (a : ℕ) × (b : ℕ) × (pair_bytes (a, b) ≡ value)
Belongs ranges m (chunk number piece) value = IsNamed ranges None number piece m

-- each row does
abbrev pub AllBelong : List CountyRange → KeyMap → Type 0
AllBelong ranges m = (row : RowKey) (value : List ℕ) → Fits row → Has m row value → Belongs ranges m row value

-- the row with this key doesn't
abbrev pub IsStray : List CountyRange → KeyMap → List ℕ → Type 0
IsStray ranges m key = (row : RowKey) × Fits row × (key ≡ key_of row) × ((value : List ℕ) × Has m row value × (Belongs ranges m row value → ⊥))

-- nothing is told to be wrong, and it is so; or something is, and it isn't
abbrev pub Tells : Type 0 → Option Wrong → Type 0
Tells so None = so
Tells so (Some wrong) = so → ⊥

-- an entry of a map does, if its key is that of a row; or it doesn't, and something is told of it
abbrev pub IsRight : List CountyRange → KeyMap → Entry → Type 0
IsRight ranges m e = (row : RowKey) → Fits row → e.0 ≡ key_of row → Belongs ranges m row e.1

abbrev pub IsWrong : List CountyRange → KeyMap → Entry → Type 0
IsWrong ranges m e = (row : RowKey) × Fits row × (e.0 ≡ key_of row) × (Belongs ranges m row e.1 → ⊥)

abbrev pub IsJudged : List CountyRange → Entry → KeyMap → Option Wrong → Type 0
IsJudged ranges e m None = IsRight ranges m e
IsJudged ranges e m (Some wrong) = IsWrong ranges m e

-- the row is one of the map's, or has no key
abbrev pub IsHeldRow : Row → KeyMap → Type 0
IsHeldRow row m = (row.key ≡ []) ⊎ (row_at m row.key ≡ Some row.value)

-- where the held row was so, the next one is, and this is found beside
abbrev pub Holds : {X : Type 0} → Row → Row → (KeyMap → X → Type 0) → KeyMap → X → Type 0
Holds was is says m x = IsHeldRow was m → IsHeldRow is m × says m x

-- any map will do
abbrev pub IsAny : KeyMap → Type 0
IsAny m = Unit {0}

-- all rows were read, so many, and each belongs; or this one doesn't
abbrev pub IsChecked : Option WrongRow → ℕ → List CountyRange → KeyMap → Type 0
IsChecked None rows ranges m = AreWhole rows m × AllBelong ranges m
IsChecked (Some row) rows ranges m = IsStray ranges m row.key
