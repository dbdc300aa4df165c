use Rattle.std.proofs.Common.{◌≡◌, ◌++◌, take}
use Rattle.desk_store_lists.proofs.form.append_bytes.Given as goal

abbrev pub invariant-loop-place : goal.invariant-loop-place
invariant-loop-place l = l.into.items ≡ l.initial.into.items ++ take l.place l.bytes
