-- What lies under an office's lock, as the layers above see it.
use Rattle.std.specs.Prelude.{◌≡◌, ◌⊎◌, ◌≤◌, ◌+◌, ℕ, Bool, false, Option, List, length, Result}
use Rattle.{desk_gallery.specs.claim.{After.after, Begun.{Beginning, BeginsWith}, Working.AreAccepted}, desk_model.specs.{claim.Desk.Desk, declared.command.Command.Command}}
use Rattle.{desk_model.specs.declared.reply.Reply.Reply, desk_theorem_runs.specs.{Steps.StepMay, Turns.swept_of, claim.SweptRuns.Tends, declared.turning.Swept.Swept}}
use Rattle.desk_theorem_runs.specs.{declared.turning.Swept.TheVariants.Over, desk_store.claim.Clerks.{desk_of, Keeps, is_halted, sectors_of, room_of, free_of, pages_of}}
use Rattle.desk_theorem_runs.specs.{desk_store.{claim.{Commands.Does, Keeping.IsLeft}, declared.clerk.Clerk.Clerk}, desk_store_pages.declared.error.StoreError.StoreError}
use Rattle.{page_store.specs.claim.Transactions.device_in, sector_device.specs.{claim.Disk.Image, declared.SectorDevice.Ghosts}}
use mathlib.Core.List.{IsPrefix}

-- the store's device, whether it has halted, its sizes, the changes that are shown, and these with what is pending after them
pub record Kept (D : Type 0) : Type 0 where
  pub device : D
  pub halted : Bool
  pub sectors : ℕ
  pub room : ℕ
  pub free : ℕ
  pub shown : List Command
  pub all : List Command

module _ {D : Type 0} {g : Ghosts D} where
  abbrev pub kept_of : Clerk D g → List Command × List Command → Kept D
  kept_of x lists = record {
    device = device_in (pages_of x);
    halted = is_halted x;
    sectors = sectors_of x;
    room = room_of x;
    free = free_of x;
    shown = lists.0;
    all = lists.1;
  }

  -- a clerk with whom a gallery begins: it shows the first desk, and what the gallery takes for known of it is so
  pub record Starts (first : Desk) (beginning : Beginning) (sound : Type 0) (x : Clerk D g) : Type 0 where
    pub same : desk_of x ≡ first
    pub kept : sound → Keeps x
    pub begins : BeginsWith beginning x

  -- such a clerk lies there, and shows the desk after the changes that are shown
  pub record IsClerk (first : Desk) (f : Kept D) (x : Clerk D g) : Type 0 where
    pub device : device_in (pages_of x) ≡ f.device
    pub halted : is_halted x ≡ f.halted
    pub sectors : sectors_of x ≡ f.sectors
    pub room : room_of x ≡ f.room
    pub free : free_of x ≡ f.free
    pub desk : desk_of x ≡ after first f.shown

-- what became of a command, at the clerk that lies there
pub record Works {D : Type 0} (g : Ghosts D) (first : Desk) (old : Kept D) (c : Command) (reply : Reply) (new : Kept D) : Type 0 where
  pub clerk : Clerk D g
  pub is : IsClerk first old clerk
  pub next : Clerk D g
  pub is_next : IsClerk first new next
  pub does : Does clerk c reply next

-- what became of a step of a sweep, at the clerk that lies there: the desk that is shown stays, and so does what images open to
pub record SweepsOn {D : Type 0} (g : Ghosts D) (first : Desk) (old : Kept D) (did : Result (Option ℕ) StoreError) (new : Kept D) : Type 0 where
  pub clerk : Clerk D g
  pub is : IsClerk first old clerk
  pub next : Clerk D g
  pub is_next : IsClerk first new next
  pub was_checked : Bool
  pub is_checked : Bool
  pub tends : Tends was_checked clerk is_checked next
  pub may : StepMay was_checked clerk did next

-- a step of a sweep at what lies there answered so, before which there were so many moves, and the turn came to what that says
pub record HasTurned {D : Type 0} (g : Ghosts D) (first : Desk) (moves : ℕ) (swept : Swept) : Type 0 where
  pub old : Kept D
  pub did : Result (Option ℕ) StoreError
  pub new : Kept D
  pub sweeps : SweepsOn g first old did new
  pub came_to : swept ≡ swept_of moves did

-- the sweeps were ended, or such a step was done
abbrev pub MayTurn : {D : Type 0} → Ghosts D → Desk → Swept → Type 0
MayTurn g first swept = (swept ≡ Over) ⊎ ((moves : ℕ) × HasTurned g first moves swept)

-- each image that a stop may leave opens to the desk that is shown, or after a halt to that or to the desk after one change more
abbrev pub OpensShown : {D : Type 0} → Ghosts D → Desk → Kept D → Type 0
OpensShown g first f = (g.disk f.device).is_honest → (c : Image) → (g.disk f.device).leaves c → IsLeft f.halted f.sectors (after first f.shown) c

-- Nothing that was shown is lost: what the store keeps opens to it. Only a halt leaves a change pending, one at most. Each change is of a
-- command that was accepted after those before it.
pub record ShowsAll {D : Type 0} (g : Ghosts D) (first : Desk) (sound : Type 0) (f : Kept D) : Type 0 where
  pub kept : sound → OpensShown g first f
  pub none : f.halted ≡ false → f.all ≡ f.shown
  pub few : length f.all ≤ length f.shown + 1
  pub begins : IsPrefix f.shown f.all
  pub accepted : AreAccepted first f.all
