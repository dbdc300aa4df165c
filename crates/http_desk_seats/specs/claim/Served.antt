-- What streams that an office served came to, and what its clerk did.
use Rattle.{std.specs.Prelude.{ℕ, List}, desk_gallery.specs.{claim.{Begun.{Beginning, HasRun}, Working.AreAccepted}, desk_store.declared.clerk.Clerk.Clerk}}
use Rattle.{desk_model.specs.{claim.Desk.Desk, declared.command.Command.Command}, http_desk_connections.specs.declared.ran.Ran.Ran}
use Rattle.{http_desk_seats.specs.claim.Streams.{Traffic, IsAskedOf, AreCounted}, sector_device.specs.declared.SectorDevice.Ghosts}

module _ {R W : Type 0} (s : Traffic R W) (first : Desk) {D : Type 0} {g : Ghosts D} where
  -- Streams were served at the seats of these visitors, and came to this. Commands were done one after the other, each of which
  -- one of the streams asked for, from the clerk with whom the office began to this one. The changes along which the streams were
  -- answered are those of them that were acknowledged, each accepted after those before it, and each was told once as accepted; so
  -- many were told as halted.
  pub record HasServed (begins : Beginning) (visitors : List (List Command)) (last : Clerk D g) (ran : Ran) : Type 0 where
    pub changes : List Command
    pub halts : ℕ
    pub accepted : AreAccepted first changes
    pub left : HasRun begins (IsAskedOf s) last changes halts
    pub counted : AreCounted s first changes halts visitors ran
