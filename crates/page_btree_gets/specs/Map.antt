-- What no promise rests on, beside claim/Map.antt.
use Rattle.std.specs.{FinMap.{empty, insert}, Prelude.{◌≡◌, ◌<◌, ◌+◌, ℕ, List, length}}
use Rattle.{page_btree_gets.specs.claim.{Keys.KeyMap, Map.Holds}, page_store.specs.{claim.Chain.{IsIn, AreFree, root_in, free_in}, gate_journal.claim.Store.{home, Opens}}}
use Rattle.sector_device.specs.claim.Disk.{Image}

-- pages whose root is page 1, with these bytes, hold the map with this one row
abbrev pub IsOnlyRow : List ℕ → List ℕ → List ℕ → Type 0
IsOnlyRow bytes key value =
    (n : ℕ) (P : Image) (free : List ℕ) → P 1 ≡ bytes → 1 < n → AreFree n free → (IsIn 1 free → ⊥) → length free + 2 ≡ n
    → Holds n P 1 free (insert empty key value)

-- an image of a store with so many sectors opens to the map
pub record OpensMap (sectors : ℕ) (m : KeyMap) (c : Image) : Type 0 where
  pub J : ℕ
  pub n : ℕ
  pub P : Image
  pub whole : home J + n ≡ sectors
  pub opens : Opens J n P c
  pub holds : Holds n P (root_in P) (free_in P) m
