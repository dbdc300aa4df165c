-- Plans of which one may wait to be put into the tree.
use Rattle.std.specs.{FinMap.is_sorted, Prelude.{◌≡◌, ℕ, List, Option, Some, None, IsTrue}, declared.{alloc.Global.Global, sync.Arc.Arc}}
use Rattle.{desk_model.specs.claim.Desk.{Plan, name_cmp}, desk_store_plans.specs.Rows.{Row, IsPut}}
use Rattle.std.specs.FinMap as map_of

-- the plans of the tree's rows, with the pending one
abbrev pub laid : Option (Arc Row Global) → List Row → map_of.FinMap name_cmp Plan
laid None rows = map_of.from_sorted rows
laid (Some e) rows = map_of.insert (map_of.from_sorted rows) e.value.0 e.value.1

-- the tree's rows rise by name, and there are so many plans
pub record AreHeld (pending : Option (Arc Row Global)) (rows : List Row) (number : ℕ) : Type 0 where
  pub rising : IsTrue (is_sorted name_cmp rows)
  pub count : number ≡ map_of.len (laid pending rows)

-- the pending plan, if there was one, has come into the tree
abbrev pub IsSettled : Option (Arc Row Global) → List Row → List Row → Type 0
IsSettled None old new = new ≡ old
IsSettled (Some e) old new = IsPut e.value old new
