-- A store that is opened by its name, used and closed, and the text that is printed of it.
use Rattle.std.specs.{Prelude.{◌≡◌, ◌⊎◌, ℕ, List, Result, Ok, Err, Vec}, declared.alloc.Global.Global}
use Rattle.store_command.specs.declared.fault.StoreFault.{StoreFault, TheVariants.Memory}

module _ {D O A : Type 0} (opens : O → List ℕ → Result D StoreFault → O → Type 0) (closes : O → D → O → Type 0) (becomes : D → Result A StoreFault → D → Type 0) where
  -- the device of the name was opened, and closed as what was done left it
  pub record IsUsed (before : O) (name : List ℕ) (did : Result A StoreFault) (after : O) : Type 0 where
    pub device : D
    pub middle : O
    pub opened : opens before name (Ok device) middle
    pub left : D
    pub became : becomes device did left
    pub closed : closes middle left after

  -- what comes of a store, with the text that is printed; where memory is refused before, none is opened
  abbrev pub Uses : (text_of : A → List ℕ) → (before : O) → List ℕ → Result (Vec ℕ Global) StoreFault → (after : O) → Type 0
  Uses text_of before name (Ok text) after = (did : A) × (text.items ≡ text_of did) × IsUsed before name (Ok did) after
  Uses text_of before name (Err fault) after =
      ((fault ≡ Memory) × (after ≡ before)) ⊎ (opens before name (Err fault) after ⊎ IsUsed before name (Err fault) after)
