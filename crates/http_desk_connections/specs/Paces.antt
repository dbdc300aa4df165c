-- How long a connection is kept, in milliseconds.
use Rattle.std.specs.Prelude.{◌≡◌, ◌<◌, ℕ, ◌+◌, ◌-◌, ◌*◌, nat_lt, nat_le, Bool, true, false, ◌||◌, if◌then◌else◌}
use Rattle.{byte_stream.specs.{claim.Counts.counted, declared.source.Turn.{Turn, TheVariants.{Read, Interrupted, Failed}}}, http_desk_connections.specs.declared.pace.Limits.Limits}
use Rattle.http_desk_connections.specs.declared.pace.{Pace.Pace, TimeoutAction.{TimeoutAction, TheVariants.{Waits, GivesWay, Fails}}}

-- nothing was asked
abbrev pub new_pace : Pace
new_pace = record { asks = false; first = 0; last = 0; silent = 0 }

-- After an answer a part of a request is there just where an inbox of 65,536 bytes hasn't all of its room, and it came with the last
-- bytes; silence counts from here. Otherwise nothing changes.
abbrev pub pace_at_turn : Pace → (is_answered : Bool) → (room : ℕ) → Pace
pace_at_turn p is_answered room =
    if is_answered then record { asks = nat_lt room 65536; first = p.last; last = p.last; silent = 0 } else p

-- the first bytes after an answer are those of a request
abbrev pub pace_with_bytes : Pace → (time : ℕ) → Pace
pace_with_bytes p time = record { asks = true; first = if p.asks then p.first else time; last = time; silent = 0 }

-- a tenth of a second more without a byte
abbrev pub pace_with_silence : Pace → Pace
pace_with_silence p = record { asks = p.asks; first = p.first; last = p.last; silent = counted p.silent 100 }

-- between requests: it gives way where another waits, or after `keep` seconds of silence, and never fails
abbrev pub fate_between : (silent keep : ℕ) → (another_waits : Bool) → TimeoutAction
fate_between silent keep another_waits = if another_waits || nat_le (keep * 1000) silent then GivesWay else Waits

-- within a request: it fails after `idle` seconds of silence, or `request` seconds after its first byte, and never gives way
abbrev pub fate_within : (silent asking : ℕ) → Limits → TimeoutAction
fate_within silent asking limits =
    if nat_le (limits.idle * 1000) silent || nat_le (limits.request * 1000) asking then Fails else Waits

abbrev pub fate_of : Pace → (time : ℕ) → (another_waits : Bool) → Limits → TimeoutAction
fate_of p time another_waits limits =
    if p.asks then fate_within p.silent (time - p.first) limits else fate_between p.silent limits.keep another_waits

-- how long one is silent at most before it gives way or fails
abbrev pub silence_of : Limits → (asks : Bool) → ℕ
silence_of limits asks = if asks then limits.idle * 1000 else limits.keep * 1000

-- it was waited for no longer than that, and the slice in which that passed
abbrev pub IsPatient : Limits → Pace → Type 0
IsPatient limits p = p.silent < silence_of limits p.asks + 100

-- bytes of a request that is under way are taken just where its last bytes came within its time
abbrev pub TakesInTime : Limits → Pace → Turn → Type 0
TakesInTime limits p (Read n) = 0 < n → p.asks ≡ true → p.last - p.first < limits.request * 1000
TakesInTime limits p Interrupted = Unit {0}
TakesInTime limits p Failed = Unit {0}
