-- What a connection came to.
use Rattle.{std.specs.Prelude.{ℕ, Option, Result, Ok, Err}, connection_log.specs.declared.{connection.Connection.Connection, counting.Sent.Sent}}
use Rattle.{http_desk.specs.streams.declared.serve.{ServeFault.ServeFault, Served.Served}, jiff_core.specs.declared.civil.datetime.DateTime.DateTime}

-- the answers of one that was served to its end are told by who served it; of another they are those that were written
abbrev pub requests_of : Result Served ServeFault → Sent → ℕ
requests_of (Ok served) sent = served.requests
requests_of (Err fault) sent = sent.answers

abbrev pub faults_of : Result Served ServeFault → ℕ
faults_of (Ok served) = 0
faults_of (Err fault) = 1

abbrev pub connection_of : Option DateTime → (number : ℕ) → Result Served ServeFault → (read : ℕ) → Sent → Connection
connection_of at number served read sent = record {
  at = at;
  number = number;
  requests = requests_of served sent;
  refusals = sent.refusals;
  faults = faults_of served;
  read = read;
  written = sent.bytes;
}
