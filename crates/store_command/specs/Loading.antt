-- A state that is loaded: its files are read and judged one after the other, and then a store is filled with what they say.
use Rattle.std.specs.{Prelude.{◌≡◌, ℕ, List, codes, Result, Ok, Err, Vec}, declared.alloc.Global.Global}
use Rattle.{command_output.specs.{claim.{Telling.Tells, Writing.{Written, write_fault_line}}, declared.status.Status.Status}, desk_model.specs.claim.Geography.GeographyModel}
use Rattle.{sector_device.specs.declared.SectorDevice.Ghosts, state_files.specs.declared.fault.FileFault.FileFault, store_command.specs.{Filling.FillsDevice, Telling.EndsStore}}
use Rattle.store_command.specs.{Texts.loaded_text, Using.Uses, claim.Files.{Openings, ReadsGeography}, declared.fault.StoreFault.StoreFault}

module _ {D O : Type 0} (g : Ghosts D) (opens : O → List ℕ → Result D StoreFault → O → Type 0) (closes : O → D → O → Type 0) where
  -- what comes of a store, with the text that is printed; where memory is refused before, none is opened
  abbrev pub Fills : (before : O) → List ℕ → GeographyModel → Result (Vec ℕ Global) StoreFault → (after : O) → Type 0
  Fills before name area = Uses opens closes (λ device filled left. FillsDevice g device area filled left) (λ _. loaded_text area) before name

  -- what comes of the files: a store is filled with their geography; or none is touched, and their fault is told
  abbrev pub EndsLoad : (stores stores_after : O) → List ℕ → Result GeographyModel FileFault
      → Status → (before after told_before told_after : Written) → Type 0
  EndsLoad stores stores_after name (Ok area) status before after told_before told_after = (given : Result (Vec ℕ Global) StoreFault)
      × Fills stores name area given stores_after × EndsStore (write_fault_line (codes "load")) given status before after told_before told_after
  EndsLoad stores stores_after name (Err fault) status before after told_before told_after =
      (stores_after ≡ stores) × (after ≡ before) × Tells fault status told_before told_after

  -- the geography that the files say, in the store of the name
  abbrev pub Loads : (files left : Openings) (stores stores_after : O) → List ℕ → Status → (before after told_before told_after : Written) → Type 0
  Loads files left stores stores_after name status before after told_before told_after = (read : Result GeographyModel FileFault)
      × ReadsGeography files left read × EndsLoad stores stores_after name read status before after told_before told_after
