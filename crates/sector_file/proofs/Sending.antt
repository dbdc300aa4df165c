-- What is recorded of a file owns nothing, so it may go to another thread, and a reader of the file with it.
use denote.Param.Send.{IsSend, IsSync, sendable, owning_send, whole-keyless}
use Rattle.sector_file.specs.contracts.record.Record as Record

pub record_send : IsSend Record.the_row
record_send = owning_send Record.the_type (search sendable, tt) (λ d. tt) (λ k x w. tt)

pub record_sync : IsSync Record.the_row
record_sync = record { shared = λ d b o κ q. whole-keyless _ _ record_send.owned q d b o }
