-- What reading has cost, and what it may still cost.
use Rattle.std.specs.Prelude.{◌≡◌, ℕ, ◌+◌, ◌-◌, ◌*◌, ◌≤◌, List, length, Result, Ok, Err}
use Rattle.{byte_stream.specs.claim.Counts.counted, http_wire_intake.specs.declared.fault.WireFault.WireFault}
use Rattle.http_wire_intake.specs.declared.fault.WireFault.TheVariants as fault

-- a read fault is one failure more, and all else none
abbrev pub failures_of : {A : Type 0} → ℕ → Result A WireFault → ℕ
failures_of n (Ok a) = n
failures_of n (Err fault.Read) = counted n 1
failures_of n (Err fault.Memory) = n
failures_of n (Err fault.TurnLimit) = n

-- what a stream with so many turns left can still give, and what has come: no request can be read for nothing
abbrev pub reading_left : ℕ → List ℕ → ℕ
reading_left turns read_buffer = 65536 * turns + length read_buffer

-- of a budget of turns the reader took what is missing now
pub record Spends (old new before after : ℕ) : Type 0 where
  pub fewer : new ≤ old
  pub taken : after ≡ counted before (old - new)
