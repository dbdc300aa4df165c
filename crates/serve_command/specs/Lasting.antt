-- What no promise rests on, beside claim/Lasting.antt.
use Rattle.{std.specs.{Prelude.{Result, Ok, Err}, declared.alloc.AllocError.AllocError}, http_desk.specs.connections.declared.ran.Ran.Ran}
use Rattle.{inspect_command.specs.desk_store.declared.clerk.Clerk.Clerk, sector_device.specs.declared.SectorDevice.Ghosts}

-- the clerk after a run, and after one for which memory was refused
abbrev pub clerk_in : {D : Type 0} {g : Ghosts D} → Result (Clerk D g × Ran) (AllocError × Clerk D g) → Clerk D g
clerk_in (Ok end) = end.0
clerk_in (Err e) = e.1
