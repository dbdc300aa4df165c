-- Each side of a tree has fewer plans than the tree.
use Rattle.std.{specs.{Prelude.{ℕ, ◌≤◌, [], ◌∷◌, ◌++◌, Option, Some, None, length}, declared.{alloc.Global.Global, sync.Arc.Arc}}, proofs.Common.{arith, length-append}}
use Rattle.desk_store_plans.specs.{Rows.Row, Tree.rows_of, declared.tree.Tree.{Tree, TheDeep.deep-Tree, TheInside.Inside}}

by_sides : (left right : Option (Arc Tree Global)) (entry : Arc Row Global) (height : ℕ)
    → deep-Tree (record { left = left; entry = entry; height = height; right = right }) ≤ length (rows_of left ++ entry.value ∷ rows_of right)
by_sides None None entry height = omega arith
by_sides None (Some r) entry height = omega arith
by_sides (Some l) None entry height = omega (arith, length-append l.value.1 (entry.value ∷ []))
by_sides (Some l) (Some r) entry height = omega (arith, length-append l.value.1 (entry.value ∷ r.value.1))

-- no side is deeper than the tree has plans
pub falls : (a : Inside) → deep-Tree a ≤ length (rows_of a.left ++ a.entry.value ∷ rows_of a.right)
falls a = by_sides a.left a.right a.entry a.height
