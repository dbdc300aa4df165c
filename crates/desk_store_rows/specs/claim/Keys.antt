-- The rows of a store and their keys. A key is a tag and numbers, the highest byte of each first, so that the order of the
-- bytes is the order of the numbers. The tags of rows that come and go are capital letters; the rows of geographies and of
-- chunks, which grow, stand after them.
use Rattle.std.specs.{Int.bytes_high_first, Prelude.{◌<◌, ◌^◌, ℕ, List, [], ◌∷◌, ◌++◌, length}}

-- the number in 1, 2, 4 and 8 bytes
abbrev pub in_one : ℕ → List ℕ
in_one n = bytes_high_first 1 n

abbrev pub in_two : ℕ → List ℕ
in_two n = bytes_high_first 2 n

abbrev pub in_four : ℕ → List ℕ
in_four n = bytes_high_first 4 n

abbrev pub in_eight : ℕ → List ℕ
in_eight n = bytes_high_first 8 n

-- What a row is of.
pub data RowKey : Type 0 where
  -- the numbers that the next plan, chunk and load get
  counters : RowKey
  -- a plan that was taken away
  retired : (plan : ℕ) → RowKey
  -- a load that was begun and isn't sealed
  begun : (load : ℕ) → RowKey
  -- a chunk that a plan holds
  holding : (plan number : ℕ) → RowKey
  -- how many plans hold a chunk
  holder_count : (number : ℕ) → RowKey
  -- a plan, by its name
  named : (name : List ℕ) → RowKey
  -- some of the chunks of a revision, from 1; the parts are counted from 0
  part : (plan revision index : ℕ) → RowKey
  -- which load is the geography
  seal : RowKey
  -- the version of the rows
  version : RowKey
  -- a block and a pair of neighbours of a load, by their places
  block : (load place : ℕ) → RowKey
  pair : (load place : ℕ) → RowKey
  -- some of the districts of a chunk; the pieces are counted from 0
  chunk : (number piece : ℕ) → RowKey

-- what the keys of several rows begin with
abbrev pub plans_prefix : List ℕ
plans_prefix = 80 ∷ []

abbrev pub retired_prefix : List ℕ
retired_prefix = 68 ∷ []

abbrev pub begun_prefix : List ℕ
begun_prefix = 76 ∷ []

abbrev pub holdings_prefix : ℕ → List ℕ
holdings_prefix plan = 72 ∷ in_eight plan

abbrev pub holder_counts_prefix : List ℕ
holder_counts_prefix = 75 ∷ []

abbrev pub revision_prefix : ℕ → ℕ → List ℕ
revision_prefix plan revision = 82 ∷ (in_eight plan ++ in_four revision)

abbrev pub blocks_prefix : ℕ → List ℕ
blocks_prefix load = 103 ∷ (in_eight load ++ 98 ∷ [])

abbrev pub pairs_prefix : ℕ → List ℕ
pairs_prefix load = 103 ∷ (in_eight load ++ 112 ∷ [])

abbrev pub chunk_prefix : ℕ → List ℕ
chunk_prefix number = 107 ∷ in_eight number

-- the key of a row
abbrev pub key_of : RowKey → List ℕ
key_of counters = 65 ∷ []
key_of (retired plan) = retired_prefix ++ in_eight plan
key_of (begun load) = begun_prefix ++ in_eight load
key_of (holding plan number) = holdings_prefix plan ++ in_eight number
key_of (holder_count number) = holder_counts_prefix ++ in_eight number
key_of (named name) = plans_prefix ++ name
key_of (part plan revision index) = revision_prefix plan revision ++ in_one index
key_of seal = 83 ∷ []
key_of version = 86 ∷ []
key_of (block load place) = blocks_prefix load ++ in_four place
key_of (pair load place) = pairs_prefix load ++ in_four place
key_of (chunk number piece) = chunk_prefix number ++ in_two piece

-- the numbers fit
abbrev pub Fits : RowKey → Type 0
Fits counters = Unit {0}
Fits (retired plan) = plan < 2 ^ 64
Fits (begun load) = load < 2 ^ 64
Fits (holding plan number) = (plan < 2 ^ 64) × (number < 2 ^ 64)
Fits (holder_count number) = number < 2 ^ 64
Fits (named name) = length name < 72
Fits (part plan revision index) = (plan < 2 ^ 64) × (revision < 2 ^ 32) × (index < 2 ^ 8)
Fits seal = Unit {0}
Fits version = Unit {0}
Fits (block load place) = (load < 2 ^ 64) × (place < 2 ^ 32)
Fits (pair load place) = (load < 2 ^ 64) × (place < 2 ^ 32)
Fits (chunk number piece) = (number < 2 ^ 64) × (piece < 2 ^ 16)
