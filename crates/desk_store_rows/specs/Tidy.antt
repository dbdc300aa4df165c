-- What no promise rests on, beside claim/Tidy.antt.
use Rattle.std.specs.Prelude.{◌≡◌, Bool}
use Rattle.desk_store_rows.specs.{claim.{Rows.KeyMap, Tidy.Tidy}, declared.value.Counters.Counters}

-- and these are its counters, and its version
abbrev pub TidyWith : KeyMap → Counters → Bool → Type 0
TidyWith m next new = (tidy : Tidy m) × (tidy.next ≡ next) × (tidy.new ≡ new)
