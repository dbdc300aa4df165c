-- What a run came to, by its last clerk and the socket.
use Rattle.{std.proofs.Common.{◌≡◌, ℕ, List, Bool, true, false, Option, Result, inr, refl}, command_output.specs.claim.Writing.Written, http_desk.specs.seats.claim.Streams.Traffic}
use Rattle.{http_desk.specs.connections.declared.ran.Ran.Ran, inspect_command.specs.store_command.declared.fault.StoreFault.StoreFault}
use Rattle.{sector_device.specs.declared.SectorDevice.Ghosts, serve_command.specs.Serving.{end_of, HasAnnounced, IsServed, Announces}}

module _ {D O : Type 0} (g : Ghosts D) (opens : O → List ℕ → Result D StoreFault → O → Type 0) (closes : O → D → O → Type 0) {A R W : Type 0} (streams : A → Traffic R W) (heard : A → Ran → Type 0) (fails : A → Bool → Type 0) (listening : Option A) (workers : ℕ) where
  pub run_ends : (port : ℕ) (stores : O) (name : List ℕ) (left : O) (before after : Written) (halted device_failed socket_failed : Bool) → (halted ≡ false → device_failed ≡ false)
      → HasAnnounced port before after → IsServed g opens closes streams heard fails listening workers stores name halted device_failed socket_failed left → Announces g opens closes streams heard fails listening workers port stores name (end_of halted device_failed socket_failed) left before after
  run_ends port stores name left before after true device socket works line served = inr (line, inr (device, refl, socket, served))
  run_ends port stores name left before after false true socket works line served = absurd (let clash : true ≡ false = works refl in cc)
  run_ends port stores name left before after false false true works line served = inr (line, served)
  run_ends port stores name left before after false false false works line served = (line, served)
