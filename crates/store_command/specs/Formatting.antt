-- A store that is made.
use Rattle.std.specs.{Prelude.{◌≡◌, ◌⊎◌, ◌≤◌, ◌<◌, ◌+◌, ◌*◌, ℕ, Bool, List, codes, Result, Ok, Err, Vec}, declared.alloc.Global.Global}
use Rattle.{command_output.specs.{claim.Writing.{Written, Told, write_fault_line}, declared.status.Status.Status}, desk_store_pages.specs.Formats.{OpensNew, HasJournal, FormatErr}}
use Rattle.{desk_store_pages.specs.declared.error.StoreError.StoreError, page_store.specs.gate_journal.claim.Store.home, sector_device.specs.declared.SectorDevice.Ghosts}
use Rattle.store_command.specs.{Faults.fault_of_store, Telling.EndsStore, Texts.{formatted_text, size_line}, declared.fault.StoreFault.{StoreFault, TheVariants.{TooSmall, Memory}}}

-- The bytes of a file are told where they are 1,000,000,000 or more, as far as the writer writes them, and else nothing is.
pub record TellsSize (sectors : ℕ) (told_before told_after : Written) : Type 0 where
  pub large : 1000000000 ≤ 4096 * sectors → Told told_before told_after (size_line sectors)
  pub small : 4096 * sectors < 1000000000 → told_after ≡ told_before

module _ {D O : Type 0} (g : Ghosts D) (makes : O → List ℕ → ℕ → Result D StoreFault → O → Type 0) (closes : O → D → O → Type 0) where
  -- A device of so many sectors was made under the name, and was closed as a store with J journal pages whose desk has no
  -- geography and no plan.
  pub record IsStore (before : O) (name : List ℕ) (sectors J : ℕ) (after : O) : Type 0 where
    pub device : D
    pub middle : O
    pub made : makes before name sectors (Ok device) middle
    pub new : D
    pub closed : closes middle new after
    pub size : (g.disk new).sectors ≡ sectors
    pub honest : (g.disk new).is_honest → (g.disk device).is_honest
    pub opens : (g.disk new).is_honest → OpensNew (g.disk new)
    pub journal : (g.disk new).is_honest → HasJournal J (g.disk new)
    pub room : home J + 64 ≤ sectors

  -- one was made, and was closed as what is no store, for this reason
  pub record IsNoStore (before : O) (name : List ℕ) (sectors J : ℕ) (fault : StoreFault) (after : O) : Type 0 where
    pub device : D
    pub middle : O
    pub made : makes before name sectors (Ok device) middle
    pub size : (g.disk device).sectors ≡ sectors
    pub new : D
    pub closed : closes middle new after
    pub error : StoreError
    pub told : fault ≡ fault_of_store error
    pub why : FormatErr g J device new error

  -- Of too few sectors, and where memory is refused before, nothing is made and nothing told.
  abbrev pub MakeRefused : (before : O) → List ℕ → (sectors J : ℕ) → StoreFault → (after : O) → (told_before told_after : Written) → Type 0
  MakeRefused before name sectors J fault after told_before told_after =
      ((fault ≡ TooSmall) × (sectors < home J + 64) × (after ≡ before) × (told_after ≡ told_before))
      ⊎ ((home J + 64 ≤ sectors) × (((fault ≡ Memory) × (after ≡ before) × (told_after ≡ told_before))
      ⊎ (TellsSize sectors told_before told_after × (makes before name sectors (Err fault) after
      ⊎ IsNoStore before name sectors J fault after))))

  -- what comes of it, with the text that is printed, and what is told before
  abbrev pub Makes : (before : O) → List ℕ → (with_bytes : Bool) → (sectors J : ℕ) → Result (Vec ℕ Global) StoreFault → (after : O)
      → (told_before told_after : Written) → Type 0
  Makes before name with_bytes sectors J (Ok text) after told_before told_after =
      (text.items ≡ formatted_text with_bytes sectors J) × IsStore before name sectors J after × TellsSize sectors told_before told_after
  Makes before name with_bytes sectors J (Err fault) after told_before told_after = MakeRefused before name sectors J fault after told_before told_after

  -- a store of so many sectors, with so many journal pages, under the name
  abbrev pub Formats : (stores stores_after : O) → List ℕ → (with_bytes : Bool) → (sectors J : ℕ) → Status → (before after told_before told_after : Written) → Type 0
  Formats stores stores_after name with_bytes sectors J status before after told_before told_after = (given : Result (Vec ℕ Global) StoreFault)
      × (told : Written) × Makes stores name with_bytes sectors J given stores_after told_before told
      × EndsStore (write_fault_line (codes "format")) given status before after told told_after
