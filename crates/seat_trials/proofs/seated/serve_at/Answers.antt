use denote.Param.Send.{sendable}
use Rattle.{std.proofs.Crossing.crosses, seat_trials.proofs.Crosses.{memory_send, memory_sync}}
use Rattle.seat_trials.proofs.seated.serve_at.Goals as goal

pub serve_many-clerk-requires-send-D : goal.serve_many-clerk-requires-send-D
serve_many-clerk-requires-send-D = search (sendable, crosses, memory_send) depth 40

pub serve_many-clerk-requires-sync-D : goal.serve_many-clerk-requires-sync-D
serve_many-clerk-requires-sync-D = search (sendable, crosses, memory_sync) depth 40
