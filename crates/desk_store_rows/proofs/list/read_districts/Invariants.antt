use Rattle.{std.proofs.Common.{◌≡◌, ◌*◌, ◌<◌, ◌^◌, All, length, take}, desk_store_rows.specs.claim.Lists.districts_bytes}
use Rattle.desk_store_rows.proofs.list.read_districts.Given as goal

abbrev pub invariant-loop-k : goal.invariant-loop-k
invariant-loop-k l = (districts_bytes (take l.k l.each) ≡ take (2 * l.k) l.bytes) × (length l.each ≡ 512) × All (λ d. d < 2 ^ 16) (take l.k l.each)
