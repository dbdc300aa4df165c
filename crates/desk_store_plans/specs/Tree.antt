-- What a tree holds, and its height.
use Rattle.std.specs.{Prelude.{◌≡◌, ℕ, Bool, true, false, List, [], Option, Some, None}, declared.{alloc.Global.Global, sync.Arc.Arc}}
use Rattle.desk_store_plans.specs.{Rows.{Row, IsPut}, declared.tree.Tree.Tree}

-- the plans of a tree, and none where there is no tree
abbrev pub rows_of : Option (Arc Tree Global) → List Row
rows_of None = []
rows_of (Some t) = t.value.1

-- the number of levels of a tree, and 0 where there is no tree
abbrev pub height_of : Option (Arc Tree Global) → ℕ
height_of None = 0
height_of (Some t) = t.value.0

-- a plan has come to its name's place, or nothing has changed
abbrev pub IsPlaced : Row → List Row → List Row → Bool → Type 0
IsPlaced row old new true = IsPut row old new
IsPlaced row old new false = new ≡ old
