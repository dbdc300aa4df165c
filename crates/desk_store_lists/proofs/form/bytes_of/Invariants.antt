use Rattle.std.proofs.Common.{◌≡◌, take}
use Rattle.desk_store_lists.proofs.form.bytes_of.Given as goal

abbrev pub invariant-loop-place : goal.invariant-loop-place
invariant-loop-place l = l.bytes.items ≡ take l.place l.list
