-- Rows that say what they are.
use Rattle.std.specs.{FinMap.{entries, get}, Prelude.{◌≡◌, ℕ, List, length, Some}}
use Rattle.{desk_store_opening.specs.tidy.Rows.{IsPast, IsRow}, desk_store_rows.specs.claim.{Rows.{KeyMap, Has}, Tidy.{IsPart, IsPiece}}, page_btree.specs.node.claim.Entries.Entry}
use Rattle.desk_store_rows.specs.claim.Keys.{RowKey, key_of, Fits, counters, retired, begun, holding, holder_count, named, part, seal, version, block, pair, chunk}

-- a part of a revision names chunks, and a piece of a chunk has districts
abbrev pub SaysSo : RowKey → List ℕ → Type 0
SaysSo counters value = Unit {0}
SaysSo (retired plan) value = Unit {0}
SaysSo (begun load) value = Unit {0}
SaysSo (holding plan number) value = Unit {0}
SaysSo (holder_count number) value = Unit {0}
SaysSo (named name) value = Unit {0}
SaysSo (part plan revision index) value = IsPart value
SaysSo seal value = Unit {0}
SaysSo version value = Unit {0}
SaysSo (block load place) value = Unit {0}
SaysSo (pair load place) value = Unit {0}
SaysSo (chunk number piece) value = IsPiece value

-- the key is that of a row, whose value says so
pub record IsRowOf (e : Entry) : Type 0 where
  pub row : RowKey
  pub fits : Fits row
  pub is : e.0 ≡ key_of row
  pub says : SaysSo row e.1

-- a key after the version's is that of a row, and values say so
pub record IsWhole (e : Entry) : Type 0 where
  pub past : IsPast e.0 → IsRow e.0
  pub says : (row : RowKey) → Fits row → e.0 ≡ key_of row → SaysSo row e.1

-- so it is of all rows, and they are so many
pub record AreWhole (rows : ℕ) (m : KeyMap) : Type 0 where
  pub many : rows ≡ length (entries m)
  pub past : (key value : List ℕ) → get m key ≡ Some value → IsPast key → IsRow key
  pub parts : (plan revision index : ℕ) (value : List ℕ) → Fits (part plan revision index) → Has m (part plan revision index) value → IsPart value
  pub pieces : (number piece : ℕ) (value : List ℕ) → Fits (chunk number piece) → Has m (chunk number piece) value → IsPiece value

-- each row says so
abbrev pub AllSay : KeyMap → Type 0
AllSay m = (key value : List ℕ) → get m key ≡ Some value → IsRowOf (key, value)
