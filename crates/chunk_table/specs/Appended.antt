-- What is appended to a list, of what rows say.
use Rattle.std.specs.Prelude.{◌≡◌, ◌++◌, List, ℕ, Result}
use Rattle.{desk_store_pages.specs.Looking.{Gathers, Says}, desk_store_rows.specs.claim.Rows.KeyMap, page_btree.specs.gets.declared.error.TreeError.TreeError}
use Rattle.{page_store.specs.declared.{pages.Pages.Pages, txn.Txn.Txn}, sector_device.specs.declared.SectorDevice.Ghosts}

-- `says` is what a map is to say of a value, and `part` which part of the value is appended: it stands after what was there
abbrev pub AppendsNext : {X : Type 0} → (KeyMap → X → Type 0) → (X → List ℕ) → List ℕ → List ℕ → KeyMap → Type 0
AppendsNext {X} says part before after m = (x : X) → says m x → after ≡ before ++ part x

module _ {D : Type 0} {g : Ghosts D} {X T : Type 0} (says : KeyMap → X → Type 0) (part : X → List ℕ) where
  -- that part was appended, or it is told why not
  abbrev pub Appends : Txn → Pages D g → Pages D g → List ℕ → List ℕ → Result T TreeError → Type 0
  Appends t old new before after result = Gathers (λ m _. AppendsNext says part before after m) (Says says) t old new result

  -- and what was appended stands in these rows, whether or not they say a value
  abbrev pub AppendsRows : (KeyMap → List ℕ → List ℕ → Type 0) → Txn → Pages D g → Pages D g → List ℕ → List ℕ → Result T TreeError → Type 0
  AppendsRows stand t old new before after result =
      Gathers (λ m _. AppendsNext says part before after m × stand m before after) (Says says) t old new result
