-- What a stop of a device in memory leaves.
use Rattle.std.{specs.Prelude.{◌≡◌, ℕ, Bool, false, List, [], ◌∷◌, cond}, proofs.Common.{get_or, nat_eq}}
use Rattle.sector_device.specs.{Disk.IsSynced, claim.Disk.{Disk, Image}}

-- the last of the picks that is of this sector, or else these bytes
abbrev pub last_pick : List (ℕ × List ℕ) → ℕ → List ℕ → List ℕ
last_pick [] i bytes = bytes
last_pick (pick ∷ picks) i bytes = last_pick picks i (cond (nat_eq i pick.0) pick.1 bytes)

-- each sector written since the last sync gets the picked bytes, and each other what a read gives
abbrev pub after_stop : List (ℕ × List ℕ) → List Bool → Image → Image
after_stop picks unsynced reads i = cond (get_or unsynced i false) (last_pick picks i (reads i)) (reads i)

-- the same with one pick
abbrev pub after_pick : ℕ × List ℕ → List Bool → Image → Image
after_pick pick = after_stop (pick ∷ [])

-- what a stop left is one of the images that it may leave, on a device of as many sectors, all synced
pub record IsStopped (picks : List (ℕ × List ℕ)) (unsynced : List Bool) (before after : Disk) : Type 0 where
  pub picked : (i : ℕ) → after.reads i ≡ after_stop picks unsynced before.reads i
  pub left : before.leaves after.reads
  pub sectors : after.sectors ≡ before.sectors
  pub synced : IsSynced after
  pub faults : after.faults ≡ before.faults
