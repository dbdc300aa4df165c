-- What no promise rests on, beside claim/Values.antt.
use Rattle.{std.specs.Prelude.{ℕ, List}, desk_store_rows.specs.{claim.Keys.in_eight, declared.value.HolderCount.HolderCount}}

abbrev pub holder_count_bytes : HolderCount → List ℕ
holder_count_bytes t = in_eight t.plans
