use Rattle.{std.proofs.Common.{◌≡◌, ◌*◌, length, take}, desk_store_rows.specs.claim.Lists.districts_bytes}
use Rattle.desk_store_rows.proofs.list.fill_districts.Given as goal

abbrev pub invariant-loop-district : goal.invariant-loop-district
invariant-loop-district l = (l.value.items ≡ districts_bytes (take l.district-index l.districts)) × (length l.value.items ≡ 2 * l.district-index)
