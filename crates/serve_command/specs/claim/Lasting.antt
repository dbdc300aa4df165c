-- What a stop at any moment of a served store leaves, and what its streams came to.
use Rattle.std.specs.Prelude.{◌≡◌, ℕ, Bool, false, All, List, [], length}
use Rattle.{desk_model.specs.{claim.Desk.Desk, declared.command.Command.Command}, http_desk.specs.{connections.declared.ran.Ran.Ran, seats.claim.Served.HasServed}}
use Rattle.http_desk.specs.seats.{claim.Streams.{Traffic, IsAskedOf, AreCounted}, desk_gallery.claim.{Begun.Beginning, Telling.halts_of, Working.AreAccepted}}
use Rattle.inspect_command.specs.desk_store.{claim.Clerks.{desk_of, disk_of, is_halted, sectors_of, Keeps}, declared.clerk.Clerk.Clerk}
use Rattle.{inspect_command.specs.desk_theorem_runs.claim.{Runs.{Call, acknowledged}, SweptRuns.{SweptRun, SurvivesSwept}}, sector_device.specs.declared.SectorDevice.Ghosts}

-- the same desk, in a store of as many sectors, at the same moment of its device, which has failed as often, is as honest and keeps it
-- where the other does
pub record IsLike {D : Type 0} {g : Ghosts D} {E : Type 0} {h : Ghosts E} (x : Clerk D g) (y : Clerk E h) : Type 0 where
  pub desk : desk_of y ≡ desk_of x
  pub sectors : sectors_of y ≡ sectors_of x
  pub moment : (disk_of y).moment ≡ (disk_of x).moment
  pub faults : (disk_of y).faults ≡ (disk_of x).faults
  pub halted : is_halted y ≡ is_halted x
  pub honest : (disk_of y).is_honest → (disk_of x).is_honest
  pub keeps : Keeps x → Keeps y

module _ {D : Type 0} {g : Ghosts D} where
  -- Commands were done one after the other, and steps of sweeps between them, from the first clerk's desk, store and moment to the last
  -- clerk; the acknowledged ones are each accepted after those before it. They outlive each stop: since the j-th acknowledgement each image
  -- opens to the desk after the first j of them and some that follow, the one in which a fault came after them.
  pub record Outlasts (first last : Clerk D g) : Type 0 where
    pub start : Clerk D g
    pub is_first : IsLike first start
    pub calls : List Call
    pub checked : Bool
    pub run : SweptRun false start calls checked last
    pub accepted : AreAccepted (desk_of first) (acknowledged calls)
    pub survives : Keeps first → is_halted first ≡ false → (disk_of last).is_honest → SurvivesSwept false start calls checked last run

  module _ {R W : Type 0} (s : Traffic R W) where
    -- Streams were served by so many workers, each at the seat of a visitor of its own, who had heard of nothing, and until no further one
    -- was given to it, by an office that began with such a clerk and this desk. They came to this, and this clerk came back.
    pub record HasTalked (workers : ℕ) (first : Desk) (begins : Beginning) (last : Clerk D g) (ran : Ran) : Type 0 where
      pub visitors : List (List Command)
      pub many : length visitors ≡ workers
      pub fresh : All (λ (v : List Command). v ≡ []) visitors
      pub served : HasServed s first begins visitors last ran

    -- Commands were done one after the other from the first clerk to the last, and outlive each stop; each was asked for by one of the
    -- streams.
    pub record LastsAsked (first last : Clerk D g) : Type 0 where
      pub lasts : Outlasts first last
      pub asked : All (λ (call : Call). IsAskedOf s call.0) lasts.calls

    -- Commands were done one after the other from the first clerk to the last, and outlive each stop; each was asked for by one of the
    -- streams. Along those that were acknowledged, streams were served by so many workers, and came to this: each worker sat at the seat of
    -- a visitor of its own, who had heard of nothing, and took streams until no further one was given to it. Each that was acknowledged was
    -- answered once, as accepted; so many were answered as halted as were told so.
    pub record ServesStreams (workers : ℕ) (first last : Clerk D g) (ran : Ran) : Type 0 where
      pub lasts : Outlasts first last
      pub asked : All (λ (call : Call). IsAskedOf s call.0) lasts.calls
      pub visitors : List (List Command)
      pub many : length visitors ≡ workers
      pub fresh : All (λ (v : List Command). v ≡ []) visitors
      pub counted : AreCounted s (desk_of first) (acknowledged lasts.calls) (halts_of lasts.calls) visitors ran
