-- Which failures a fault of a whole request tells.
use Rattle.{std.specs.Prelude.{ℕ, Result, Ok, Err}, byte_stream.specs.claim.Counts.counted, http_wire.specs.declared.fault.RequestFault.RequestFault}
use Rattle.http_wire.specs.declared.fault.RequestFault.TheVariants as request

-- a read fault is one failure more, and all else none
abbrev pub read_failures_of : {A : Type 0} → ℕ → Result A RequestFault → ℕ
read_failures_of n (Ok a) = n
read_failures_of n (Err request.Read) = counted n 1
read_failures_of n (Err request.Write) = n
read_failures_of n (Err request.TurnLimit) = n

-- a write fault is one failure of the writer more, and all else none
abbrev pub write_failures_of : {A : Type 0} → ℕ → Result A RequestFault → ℕ
write_failures_of n (Ok a) = n
write_failures_of n (Err request.Read) = n
write_failures_of n (Err request.Write) = counted n 1
write_failures_of n (Err request.TurnLimit) = n
