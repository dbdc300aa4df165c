-- A chunk under the next number.
use Rattle.std.specs.Prelude.{◌≡◌, ◌⊎◌, ◌<◌, ◌+◌, ◌^◌, ◌++◌, ℕ, List, [], ◌∷◌, Option, MatchOption, Result}
use Rattle.{chunk_table.specs.declared.ids.ChunkId.ChunkId, desk_store_pages.specs.{Outcomes.Writes, Reading.{HasNext, ReadErr}, claim.Puts.{HasPut, PutsErr}}}
use Rattle.desk_store_rows.specs.{ChunkRows.chunk_rows, Steps.chunks_more, claim.{Keys.{key_of, counters}, Puts.Row, Rows.KeyMap, Tidy.{IsNext, CountersFit}}}
use Rattle.{desk_store_rows.specs.{claim.Values.counters_bytes, declared.value.Counters.Counters}, page_btree.specs.gets.{claim.Map.InTxn, declared.error.TreeError.TreeError}}
use Rattle.{page_store.specs.{claim.Transactions.{stored, disk_in, Passed}, declared.{pages.Pages.Pages, txn.Txn.Txn}}, sector_device.specs.declared.SectorDevice.Ghosts}

-- the rows of a chunk, and the row of the numbers that come after it
abbrev pub numbered_rows : List ℕ → Counters → List Row
numbered_rows districts next = chunk_rows next.chunk districts ++ (key_of counters, counters_bytes (chunks_more next 1)) ∷ []

module _ {D : Type 0} {g : Ghosts D} where
  -- the transaction's map has these numbers
  pub record AreNumbers (next : Counters) (t : Txn) (old new : Pages D g) : Type 0 where
    pub fit : CountersFit next
    pub told : (disk_in new).is_honest → (m : KeyMap) → InTxn t (stored old) m → IsNext m next

  -- the chunk was put under the next number
  pub record IsNumbered (districts : List ℕ) (id : ChunkId) (t u : Txn) (old new : Pages D g) : Type 0 where
    pub next : Counters
    pub are : AreNumbers next t old new
    pub is : id.number ≡ next.chunk
    pub put : HasPut (numbered_rows districts next) t u old new

  -- or none was left, and nothing was written
  pub record HasNoNumber (t u : Txn) (old new : Pages D g) : Type 0 where
    pub next : Counters
    pub are : AreNumbers next t old new
    pub none : next.chunk + 1 < 2 ^ 64 → ⊥
    pub passed : Passed old new
    pub same : u ≡ t

  -- the numbers were not read, or the rows not put
  abbrev pub NumberErr : List ℕ → Txn → Pages D g → Pages D g → TreeError → Type 0
  NumberErr districts t old new e = ReadErr HasNext t old new e ⊎ ((next : Counters) × AreNumbers next t old new × PutsErr (numbered_rows districts next) t old new e)

  abbrev pub PutsChunk : List ℕ → Txn → Txn → Pages D g → Pages D g → Result (Option ChunkId) TreeError → Type 0
  PutsChunk districts t u old new result =
      Writes (λ found. MatchOption found (HasNoNumber t u old new) (λ id. IsNumbered districts id t u old new)) (NumberErr districts t old new) u old new result
