-- What a remove needs that edits a leaf alone.
use Rattle.std.specs.{FinMap.find, Prelude.{◌≡◌, ◌≢◌, ◌<◌, ℕ, Bool, true, false, List, length, remove, None}}
use Rattle.{page_btree_gets.specs.node.{Places.IsFound, claim.{Entries.Entry, Node.IsNode, Places.{key_cmp, Rises}}}, page_store.specs.claim.Chain.{IsIn, AreFree}}
use Rattle.{page_store.specs.{claim.Transactions.{over, free_over}, declared.txn.Txn.Txn}, sector_device.specs.claim.Disk.Image}

-- a row was taken out of the leaf at a page, where there is one, or its key isn't there
abbrev pub TakesRow : Txn → Txn → Image → ℕ → List ℕ → List Entry → Bool → Type 0
TakesRow old new S page key es true = (i : ℕ) × IsFound key es i × (0 < length (remove es i))
    × IsNode (over new S page) (record { level = 0; entries = remove es i }) × ((q : ℕ) → q ≢ page → over new S q ≡ over old S q)
    × ((n : ℕ) → AreFree n (free_over old S) → (IsIn page (free_over old S) → ⊥) → free_over new S ≡ free_over old S)
TakesRow old new S page key es false = find key_cmp key es ≡ None

abbrev pub IsLeafTaken : Txn → Txn → Image → ℕ → List ℕ → Bool → Type 0
IsLeafTaken old new S page key had = (es : List Entry)
    → IsNode (over old S page) (record { level = 0; entries = es }) → Rises es → TakesRow old new S page key es had
