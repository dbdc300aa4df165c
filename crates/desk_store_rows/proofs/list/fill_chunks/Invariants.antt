use Rattle.{std.proofs.Common.{◌≡◌, ◌*◌, length, take}, desk_store_rows.specs.claim.Lists.chunks_bytes}
use Rattle.desk_store_rows.proofs.list.fill_chunks.Given as goal

abbrev pub invariant-loop-number : goal.invariant-loop-number
invariant-loop-number l = (l.value.items ≡ chunks_bytes (take l.number-index l.numbers)) × (length l.value.items ≡ 8 * l.number-index)
