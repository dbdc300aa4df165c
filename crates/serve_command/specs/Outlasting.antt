-- That commands outlive each stop from the desk on as which a device read when it was opened, and whether it has failed since.
use Rattle.std.specs.Prelude.{◌≡◌, ◌<◌, Bool, true, false}
use Rattle.{desk_model.specs.claim.Desk.Desk, inspect_command.specs.desk_store.{claim.Clerks.{desk_of, disk_of, pages_of}, declared.clerk.Clerk.Clerk}}
use Rattle.{inspect_command.specs.{desk_theorem_runs.claim.SweptRuns.SurvivesSwept, store_command.Reading.{LeavesDesk, ReadsDesk}}, page_store.specs.claim.Transactions.has_halted}
use Rattle.{sector_device.specs.declared.SectorDevice.Ghosts, serve_command.specs.claim.Lasting.Outlasts}

module _ {D : Type 0} {g : Ghosts D} where
  -- Whether the device of the last clerk has failed since the first: its count of failures has risen, or it is as it was.
  pub record FailsSince (first last : Clerk D g) (failed : Bool) : Type 0 where
    pub pages : has_halted (pages_of last) ≡ failed
    pub rose : failed ≡ true → (disk_of last).is_honest → (disk_of first).faults < (disk_of last).faults
    pub calm : failed ≡ false → (disk_of last).is_honest → (disk_of last).faults ≡ (disk_of first).faults

  -- The device read as this desk when it was opened: the first clerk shows it, a stop in the opening left it, and the commands outlive
  -- each stop from it on.
  pub record OutlastsDesk (device : D) (first last : Clerk D g) (lasts : Outlasts first last) (d : Desk) : Type 0 where
    pub desk : desk_of first ≡ d
    pub opening : LeavesDesk (g.disk device) (disk_of first) d
    pub survives : SurvivesSwept false lasts.start lasts.calls lasts.checked last lasts.run

  abbrev pub OutlastsWhatIsRead : D → (first last : Clerk D g) → Outlasts first last → Type 0
  OutlastsWhatIsRead device first last lasts =
      (disk_of last).is_honest → (d : Desk) → ReadsDesk (g.disk device) d → OutlastsDesk device first last lasts d
