-- A file that is read whole, up to a limit.
use Rattle.std.specs.{Io.KnownBytes.IsAtEnd, Prelude.{◌≡◌, ℕ, ◌<◌, ◌≤◌, List, length, Option, Result, Ok, Err, Vec, ⊤}, declared.alloc.Global.Global}
use Rattle.{byte_stream.specs.claim.Counts.counted, state_files.specs.declared.whole.WholeFault.WholeFault}
use Rattle.state_files.specs.declared.whole.WholeFault.TheVariants as fault

-- a plan's file has at most this many bytes
abbrev pub plan_limit : ℕ
plan_limit = 33554432

-- The bytes that came are the whole file, where the reader has this left; or more than the limit came; or the reading ended before that.
abbrev pub IsWholeFile : List ℕ → Option (List ℕ) → Result (Vec ℕ Global) WholeFault → Type 0
IsWholeFile text left (Ok bytes) = IsAtEnd left × (bytes.items ≡ text) × (length text ≤ plan_limit)
IsWholeFile text left (Err fault.TooLarge) = plan_limit < length text
IsWholeFile text left (Err fault.Failed) = length text ≤ plan_limit
IsWholeFile text left (Err fault.TurnLimit) = length text ≤ plan_limit
IsWholeFile text left (Err fault.Memory) = ⊤

-- one more failure, where it is the source's
abbrev pub failures_after_whole : ℕ → Result (Vec ℕ Global) WholeFault → ℕ
failures_after_whole before (Ok bytes) = before
failures_after_whole before (Err fault.TooLarge) = before
failures_after_whole before (Err fault.Failed) = counted before 1
failures_after_whole before (Err fault.TurnLimit) = before
failures_after_whole before (Err fault.Memory) = before
