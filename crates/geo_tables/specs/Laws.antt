-- What holds of the rows of loads.
use Rattle.std.specs.{FinMap.FinMap, Prelude.{◌<◌, ◌^◌, ℕ, [], length}}
use Rattle.{desk_model.specs.claim.{Desk.{Desk, Plan, name_cmp}, Geography.GeographyModel, GeographyModels.IsGeographyModel}, desk_store_rows.specs.Changes.desk_with}
use Rattle.desk_store_rows.specs.{Staging.desk_without, claim.{DeskRows.IsDesk, GeographyRows.{IsSealed, IsStaged, geography_rows}, Keys.{begun, block, pair, seal}, Puts.put_rows}}
use Rattle.{desk_store_rows.specs.{claim.{Rows.{KeyMap, Has, Lacks}, Tidy.IsNext}, declared.value.Counters.Counters}, geo_tables.specs.Loads.sealed_rows}
use Rattle.geo_tables.specs.Rows.{begun_rows, load_taken, staged_rows}

-- A load that is begun is marked, and the next load gets another number. The desk stays. No row of the load is staged where
-- none stood under its number.
pub record LoadBegins (m : KeyMap) (next : Counters) : Type 0 where
  pub desk : (d : Desk) → IsDesk m d → IsDesk (put_rows m (begun_rows next)) d
  pub mark : Has (put_rows m (begun_rows next)) (begun next.load) []
  pub next_is : IsNext (put_rows m (begun_rows next)) (load_taken next)
  pub unsealed : Lacks m seal → Lacks (put_rows m (begun_rows next)) seal
  pub staged : (g : GeographyModel) → ((place : ℕ) → place < 2 ^ 32 → Lacks m (block next.load place))
      → ((place : ℕ) → place < 2 ^ 32 → Lacks m (pair next.load place)) → IsStaged (put_rows m (begun_rows next)) next.load g 0

abbrev pub LoadsBegin : Type 0
LoadsBegin = (m : KeyMap) (next : Counters) → LoadBegins m next

-- A batch is no part of the desk, and leaves marks, numbers and the seal as they are.
pub record BatchIsUnseen (m : KeyMap) (load : ℕ) (g : GeographyModel) (done rows : ℕ) : Type 0 where
  pub desk : (plans : FinMap name_cmp Plan) → IsDesk m (desk_without plans) → IsDesk (put_rows m (staged_rows load g done rows)) (desk_without plans)
  pub mark : (other : ℕ) → Has m (begun other) [] → Has (put_rows m (staged_rows load g done rows)) (begun other) []
  pub next_is : (next : Counters) → IsNext m next → IsNext (put_rows m (staged_rows load g done rows)) next
  pub unsealed : Lacks m seal → Lacks (put_rows m (staged_rows load g done rows)) seal

abbrev pub BatchesAreUnseen : Type 0
BatchesAreUnseen = (m : KeyMap) (load : ℕ) (g : GeographyModel) (done rows : ℕ) → BatchIsUnseen m load g done rows

-- Once all rows of a geography are staged, the seal makes it the store's, and that of the desk.
pub record LoadIsSealed (m : KeyMap) (load : ℕ) (g : GeographyModel) : Type 0 where
  pub sealed : IsSealed (sealed_rows load g m) load g
  pub desk : (plans : FinMap name_cmp Plan) → IsDesk m (desk_without plans) → IsDesk (sealed_rows load g m) (desk_with g plans)
  pub unmarked : Lacks (sealed_rows load g m) (begun load)
  pub next_is : (next : Counters) → IsNext m next → IsNext (sealed_rows load g m) next

abbrev pub LoadsAreSealed : Type 0
LoadsAreSealed = (m : KeyMap) (load : ℕ) (g : GeographyModel) → IsStaged m load g (geography_rows g)
    → IsGeographyModel g → load < 2 ^ 64 → length g.pairs < 2 ^ 32 → LoadIsSealed m load g
