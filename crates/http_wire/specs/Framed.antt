-- What reading a body gives, as it is framed.
use Rattle.{std.specs.Prelude.{List, ℕ, Result, Ok, Err, ⊤}, http_wire.specs.{claim.Prefix.{HasBody, Lacks, IsFaulty}, declared.head.Framing.Framing}}
use Rattle.http_wire_intake.specs.declared.{chunks.Chunked.{Chunked, TheVariants.{Whole, Lacking, Refused}}, fault.WireFault.WireFault}
use Rattle.http_wire_intake.specs.declared.fault.WireFault.TheVariants as fault

-- what stands at the start of the input, as the body is framed
abbrev pub BodyRead : Framing → List ℕ → Result Chunked WireFault → List ℕ → List ℕ → Type 0
BodyRead framing input (Ok Whole) body rest = HasBody framing input body rest
BodyRead framing input (Ok Lacking) body rest = Lacks framing input
BodyRead framing input (Ok (Refused f)) body rest = IsFaulty framing input f
BodyRead framing input (Err fault.Read) body rest = Lacks framing input
BodyRead framing input (Err fault.TurnLimit) body rest = Lacks framing input
BodyRead framing input (Err fault.Memory) body rest = ⊤
