-- What no promise rests on, beside claim/Recovery.antt.
use Rattle.std.specs.Prelude.{◌≡◌, ◌≢◌, ◌≤◌, ◌^◌, ℕ, Bool, false, Result, IfOk, IfErr}
use Rattle.{desk_model.specs.claim.Desk.Desk, desk_store.specs.{claim.{Clerks.{desk_of, is_halted, sectors_of, Keeps}, Openings.device_after}, declared.clerk.Clerk.Clerk}}
use Rattle.desk_store_pages.specs.{claim.Desks.{OpensDeskOf, OpensDesk, OpensEither}, declared.error.StoreError.{StoreError, TheVariants.{NotAStore, OldVersion}}}
use Rattle.sector_device.specs.{claim.{Disk.{Disk, Image}, Moments.LeavesOnly}, declared.SectorDevice.Ghosts}

-- an image of a store opens to one desk at most, in whatever version
abbrev pub ImagesAreOne : Type 0
ImagesAreOne =
    (new other : Bool) (sectors : ℕ) (d e : Desk) (c : Image) → sectors ≤ 2 ^ 32 → OpensDeskOf new sectors d c
    → OpensDeskOf other sectors e c → d ≡ e

-- each image that a stop may leave opens to the desk, in the new version
abbrev pub HoldsOne : Disk → Desk → Type 0
HoldsOne disk d = (c : Image) → disk.leaves c → OpensDesk disk.sectors d c

-- the clerk shows the desk, its store of n sectors keeps it, and no fault came
pub record Shows {D : Type 0} {g : Ghosts D} (n : ℕ) (d : Desk) (x : Clerk D g) : Type 0 where
  pub desk : desk_of x ≡ d
  pub keeps : Keeps x
  pub working : is_halted x ≡ false
  pub sectors : sectors_of x ≡ n

-- At each moment of the opening a stop leaves an image that opens to the desk, in either version. A clerk shows the desk; and the device
-- is not taken for what is no store. Where each image is of the new version at the start, each is at any moment, and none is taken for
-- one of the old.
pub record Recovers {D : Type 0} (g : Ghosts D) (device : D) (d : Desk) (result : Result (Clerk D g) (StoreError × D)) : Type 0 where
  pub any_moment : LeavesOnly (OpensEither (g.disk device).sectors d) (g.disk device) (g.disk (device_after result))
  pub shown : IfOk result (λ x. Shows (g.disk device).sectors d x)
  pub taken : IfErr result (λ e. e.0 ≢ NotAStore)
  pub new : HoldsOne (g.disk device) d → LeavesOnly (OpensDesk (g.disk device).sectors d) (g.disk device) (g.disk (device_after result))
  pub told : HoldsOne (g.disk device) d → IfErr result (λ e. e.0 ≢ OldVersion)
