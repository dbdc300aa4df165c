-- What a run over many streams counts.
use Rattle.std.specs.Prelude.{ℕ, ◌+◌, ◌-◌, ◌^◌, min, Option, Some, None, Result, Ok, Err}
use Rattle.{http_desk_connections.specs.declared.ran.Ran.Ran, http_desk_streams.specs.declared.serve.{ServeFault.ServeFault, Served.Served}}

-- the numbers stay at the greatest u64
abbrev pub counted : (so_far more : ℕ) → ℕ
counted so_far more = min (so_far + more) (2 ^ 64 - 1)

-- the requests of a stream that was served to its end
abbrev pub requests_of : Result Served ServeFault → Option ℕ
requests_of (Ok served) = Some served.requests
requests_of (Err fault) = None

abbrev pub no_streams : Ran
no_streams = record { streams = 0; requests = 0; faults = 0 }

-- one stream more: its requests where it was served to its end, else a fault
abbrev pub one_more : Ran → Option ℕ → Ran
one_more ran (Some requests) =
    record { streams = counted ran.streams 1; requests = counted ran.requests requests; faults = ran.faults }
one_more ran None = record { streams = counted ran.streams 1; requests = ran.requests; faults = counted ran.faults 1 }

-- both together
abbrev pub joined : Ran → Ran → Ran
joined a b =
    record { streams = counted a.streams b.streams; requests = counted a.requests b.requests; faults = counted a.faults b.faults }
