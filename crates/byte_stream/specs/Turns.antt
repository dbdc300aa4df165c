-- What a turn of reading does.
use Rattle.std.specs.{Io.KnownBytes.{Consumes, Keeps, IsAtEnd}, Prelude.{◌≡◌, ℕ, ◌<◌, ◌≤◌, List, length, take, Option}}
use Rattle.byte_stream.specs.{claim.Counts.counted, declared.source.Turn.{Turn, TheVariants.{Read, Interrupted, Failed}}}

-- the bytes that came leave the reader; none come only at the end or where there is no room
abbrev pub TurnConsumes : Option (List ℕ) → Option (List ℕ) → Turn → List ℕ → Type 0
TurnConsumes old new (Read n) buf = (n ≤ length buf) × Consumes old new (take n buf) × (n ≡ 0 → 0 < length buf → IsAtEnd new)
TurnConsumes old new Interrupted buf = Keeps old new
TurnConsumes old new Failed buf = Keeps old new

-- the number of failures once a turn has ended so
abbrev pub failures_after : ℕ → Turn → ℕ
failures_after n (Read k) = n
failures_after n Interrupted = n
failures_after n Failed = counted n 1
