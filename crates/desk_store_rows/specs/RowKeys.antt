-- Rows as the enum that code has of them, and as keys say them.
use Rattle.std.specs.Prelude.{◌≡◌, ◌<◌, ℕ, List, length, Option, None, Some}
use Rattle.desk_store_rows.specs.claim.Keys.{RowKey, key_of, Fits, counters, retired, begun, holding, holder_count, named, part, seal, version, block, pair, chunk}
use Rattle.desk_store_rows.specs.declared.row_key.RowKey.{RowKey as Read}
use Rattle.desk_store_rows.specs.declared.row_key.RowKey.TheVariants.{Counters, Retired, Begun, Holding, HolderCount, Named, Part, Seal, Version, Block, Pair, Chunk}

-- the row that the enum says
abbrev pub row_of : Read → RowKey
row_of Counters = counters
row_of (Retired plan) = retired plan
row_of (Begun load) = begun load
row_of (Holding plan number) = holding plan number
row_of (HolderCount number) = holder_count number
row_of (Named name) = named name.now
row_of (Part plan revision index) = part plan revision index
row_of Seal = seal
row_of Version = version
row_of (Block load place) = block load place
row_of (Pair load place) = pair load place
row_of (Chunk number piece) = chunk number piece

-- the key is that of the row
pub record IsKey (row : RowKey) (key : List ℕ) : Type 0 where
  pub fits : Fits row
  pub is : key ≡ key_of row

-- a name fits
abbrev pub IsShort : RowKey → Type 0
IsShort (named name) = length name < 72
IsShort _ = Unit {0}

-- the key is that of no row, whether its numbers fit or not
abbrev pub IsNoKey : List ℕ → Type 0
IsNoKey key = (row : RowKey) → IsShort row → key ≡ key_of row → ⊥

-- the enum says the row
abbrev pub Says : Option Read → RowKey → Type 0
Says None row = ⊥
Says (Some k) row = row_of k ≡ row
