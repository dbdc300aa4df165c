-- What leads a store of the new version back to the old one, for trials.
use Rattle.std.specs.{FinMap.get, Prelude.{◌≡◌, ℕ, Bool, true, false, List, ◌∷◌, Some, None}}
use Rattle.{desk_store_rows.specs.{Rows.SameTag, claim.Rows.KeyMap}, page_btree.specs.gets.claim.Map.InTxn, page_store.specs.declared.txn.Txn.Txn}
use Rattle.sector_device.specs.claim.Disk.{Image}

-- no key begins with the tag
abbrev pub NoneOf : ℕ → KeyMap → Type 0
NoneOf tag m = (rest : List ℕ) → get m (tag ∷ rest) ≡ None

-- some rows with the tag are gone, and the others stay
pub record IsLess (tag : ℕ) (m n : KeyMap) : Type 0 where
  pub others : (other : ℕ) → (other ≡ tag → ⊥) → SameTag other m n
  pub rows : (key value : List ℕ) → get n key ≡ Some value → get m key ≡ Some value

-- the transaction reads a map in which one is gone, or there is none
abbrev pub IsTakenFirst : Bool → ℕ → Txn → Image → KeyMap → Type 0
IsTakenFirst true tag u P m = (n : KeyMap) × InTxn u P n × IsLess tag m n
IsTakenFirst false tag u P m = InTxn u P m × NoneOf tag m

-- the transaction reads a map in which all are gone
pub record IsWithout (tag : ℕ) (u : Txn) (P : Image) (m : KeyMap) : Type 0 where
  pub n : KeyMap
  pub reads : InTxn u P n
  pub less : IsLess tag m n
  pub none : NoneOf tag n
