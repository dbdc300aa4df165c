-- What is printed and told of a store that is served, and the status that goes with it.
use Rattle.std.specs.Prelude.{◌≡◌, ℕ, List, ◌++◌, codes, decimal, Bool, true, false, Result, Ok, Err}
use Rattle.{command_output.specs.{claim.Writing.{Written, Writes, Told}, declared.status.Status.Status}, inspect_command.specs.store_command.declared.fault.StoreFault.StoreFault}
use Rattle.inspect_command.specs.store_command.{claim.Telling.{store_line, status_of as status_of_store}, declared.fault.StoreFault.TheVariants.{NotAStore, DeviceFault}}
use Rattle.serve_command.specs.declared.fault.ServingFault.{ServingFault, TheVariants.{Store, Socket, Output}}
use Rattle.command_output.specs.declared.status.Status.TheVariants as status

abbrev pub listening_text : (port : ℕ) → List ℕ
listening_text port = codes "listening on 127.0.0.1:" ++ decimal port ++ codes "\n"

abbrev pub fault_line : ServingFault → List ℕ
fault_line (Store fault) = store_line fault
fault_line Socket = codes "plandesk: serve: SocketFault\n"
fault_line Output = codes "plandesk: serve: WriteFault\n"

abbrev pub status_of : ServingFault → Status
status_of (Store fault) = status_of_store fault
status_of Socket = status.Stream
status_of Output = status.Stream

-- why a clerk halted: its device failed, or a command met rows that no desk leaves
abbrev pub fault_of_halt : (device_failed : Bool) → StoreFault
fault_of_halt true = DeviceFault
fault_of_halt false = NotAStore

-- the line was printed whole
abbrev pub HasAnnounced : (port : ℕ) → (before after : Written) → Type 0
HasAnnounced port before after = Writes before after (listening_text port) (Ok tt)

-- 0 with nothing told, or the fault's status with its line
abbrev pub EndsServing : Result (Unit {0}) ServingFault → Status → (told_before told_after : Written) → Type 0
EndsServing (Ok u) end told_before told_after = (end ≡ status.Done) × (told_after ≡ told_before)
EndsServing (Err fault) end told_before told_after = (end ≡ status_of fault) × Told told_before told_after (fault_line fault)
