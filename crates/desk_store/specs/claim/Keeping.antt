-- What a clerk's store keeps of its desk.
use Rattle.std.specs.Prelude.{◌≡◌, ◌⊎◌, ℕ, Bool, true, Some, None}
use Rattle.{desk_model.specs.{claim.{Desk.Desk, Geography.GeographyModel, Outcome.IsAcceptance, Step.step}, declared.command.Command.Command}, sector_device.specs.claim.Disk.Image}
use Rattle.desk_store_pages.specs.claim.Desks.{OpensDesk}

-- the desk after a command that is accepted
pub record IsAccepted (d e : Desk) : Type 0 where
  pub command : Command
  pub accepted : IsAcceptance (step d command).0
  pub desk : e ≡ (step d command).1

-- the desk after a geography was sealed
pub record IsSealed (d e : Desk) : Type 0 where
  pub geography : GeographyModel
  pub none : d.geography ≡ None
  pub desk : e ≡ record d { geography = Some geography }

-- a desk after one change more
abbrev pub IsOneMore : Desk → Desk → Type 0
IsOneMore d e = IsAccepted d e ⊎ IsSealed d e

-- after a halt an image may open to such a desk
pub record OpensOneMore (halted : Bool) (sectors : ℕ) (d : Desk) (c : Image) : Type 0 where
  pub halt : halted ≡ true
  pub next : Desk
  pub is : IsOneMore d next
  pub opens : OpensDesk sectors next c

-- what a stop leaves opens to the desk, or after a halt to that or to the desk after one change more
abbrev pub IsLeft : Bool → ℕ → Desk → Image → Type 0
IsLeft halted sectors d c = OpensDesk sectors d c ⊎ OpensOneMore halted sectors d c
