-- What is shared, or none of it.
use Rattle.std.specs.{Prelude.{List, [], Option, Some, None}, declared.{alloc.Global.Global, sync.Arc.Arc}}

-- the items of a part
abbrev pub part_of : {T : Type 0} → Option (Arc (List T) Global) → List T
part_of None = []
part_of (Some part) = part.value
