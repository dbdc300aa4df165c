use Rattle.{std.proofs.Common.{◌≡◌, ◌*◌, ◌<◌, ◌^◌, All, length, take}, desk_store_rows.specs.claim.Lists.chunks_bytes}
use Rattle.desk_store_rows.proofs.list.read_chunks.Given as goal

abbrev pub invariant-loop-k : goal.invariant-loop-k
invariant-loop-k l = (chunks_bytes (take l.k l.each) ≡ take (8 * l.k) l.bytes) × (length l.each ≡ 128) × All (λ n. n < 2 ^ 64) (take l.k l.each)
