-- How calls on a device follow one another, and what a stop since a moment may have left.
use Rattle.std.specs.Prelude.{◌⊎◌, ◌≤◌, ℕ}
use Rattle.sector_device.specs.claim.Disk.{Disk, Image}

-- A stop at any moment since old leaves an image that has P.
pub record LeavesOnly (P : Image → Type 0) (old new : Disk) : Type 0 where
  pub later : old.moment ≤ new.moment
  pub each : (c : Image) → new.left old.moment c → P c
  -- for a run that began earlier
  pub before : (t : ℕ) (c : Image) → t ≤ old.moment → new.left t c → old.left t c ⊎ P c
