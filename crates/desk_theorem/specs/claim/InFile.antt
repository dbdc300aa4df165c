-- One life of a store on a device that was opened for it.
use Rattle.{std.specs.Prelude.ℕ, desk_theorem.specs.claim.Device.OnDevice, desk_theorem_lives.specs.claim.Versions.Store, sector_device.specs.declared.SectorDevice.Ghosts}

-- The device was opened so, as `opened` says, and this is what one life left of it.
pub record LivedOn {D : Type 0} (g : Ghosts D) (opened : D → Type 0) (life : (t u : ℕ) → Store → Store → Type 0) : Type 0 where
  pub old : D
  pub new : D
  pub was : opened old
  pub lived : OnDevice life (g.disk old) (g.disk new)
