-- What the rows of a load make of a map that is a desk's.
use Rattle.std.proofs.{Common.{◌≡◌, ◌<◌, ◌≤◌, ◌+◌, ◌-◌, ◌^◌, ℕ, List, [], length, Some, None, sym, ap, subst, ◌∙◌, inl, inr, arith}, lemmas.Bool.cases_lt}
use Rattle.{desk_model.specs.claim.{Desk.Desk, Geography.GeographyModel, GeographyModels.IsGeographyModel}, desk_store_pages.specs.claim.Desks.IsDeskMap}
use Rattle.desk_store_rows.specs.{Changes.desk_with, Staging.desk_without, Steps.IsLoadKey, claim.{DeskRows.IsDesk, GeographyRows.{IsStaged, geography_rows}, Keys.{begun, seal}}}
use Rattle.desk_store_rows.specs.{claim.{Puts.{Row, put_rows}, Rows.{KeyMap, Has, Lacks}, Tidy.{IsNext, CountersFit, Tidy}}, declared.value.{Counters.Counters, SealRow.SealRow}}
use Rattle.{geo_tables.specs.{Loads.sealed_rows, Rows.{begun_rows, staged_row, staged_rows}}, desk_store_rows.proofs.{PutAll.told_all, TidyFree.one_next}}
use Rattle.{desk_store_rows.proofs.TidyLoads.{begun_tidy, begun_unstaged, sealed_tidy, staged_tidy}, geo_tables.proofs.LoadRows.{begun_desk, batch_tag, batch_unseen, sealed_desk}}
use Rattle.geo_tables.proofs.Staging.{is_block, is_pair}

-- ---- what a desk's map says of the seal
pub no_geography : (m : KeyMap) (d : Desk) → IsDesk m d → Lacks m seal → d.geography ≡ None
no_geography m d is none = search (arith)

pub has_geography : (m : KeyMap) (d : Desk) (value : List ℕ) → IsDesk m d → Has m seal value → (g : GeographyModel) × (d.geography ≡ Some g)
has_geography m d value is has = search (arith)

pub without : (d : Desk) → d.geography ≡ None → d ≡ desk_without d.plans
without d none = λ i. record { geography = none i; plans = d.plans }

-- ---- a load is begun
module _ (m : KeyMap) (d : Desk) (next : Counters) (is : IsDeskMap m d) (is_next : IsNext m next) (fits : CountersFit next) where
  same_next : next ≡ is.tidy.next
  same_next = one_next m next is.tidy.next fits is.tidy.fits is_next is.tidy.is_next

  pub begun_is : next.load + 1 < 2 ^ 64 → IsDeskMap (put_rows m (begun_rows next)) d
  begun_is more =
      let begun = begun_tidy m is.tidy (subst (λ (c : Counters). c.load + 1 < 2 ^ 64) same_next more) in
      let after = subst (λ (c : Counters). (then : Tidy (put_rows m (begun_rows c))) × (then.new ≡ is.tidy.new)) (sym same_next) (begun.0, begun.2) in
      record { desk = begun_desk m next d is.desk; tidy = after.0; version = after.1 ∙ is.version; limits = is.limits }

  pub begun_none : (g : GeographyModel) → IsStaged (put_rows m (begun_rows next)) next.load g 0
  begun_none g = subst (λ (c : Counters). IsStaged (put_rows m (begun_rows c)) c.load g 0) (sym same_next) (begun_unstaged m is.tidy g)

-- ---- a batch
load_key : (load : ℕ) (g : GeographyModel) (place : ℕ) → length g.blocks ≤ 2 ^ 32 → length g.pairs ≤ 2 ^ 32 → place < geography_rows g → IsLoadKey load (staged_row load g place).0
load_key load g place blocks_few pairs_few within = elim (cases_lt place (length g.blocks)) [
  | inl less ↦ inl (place, omega arith, ap (λ (r : Row). r.0) (is_block load g place less))
  | inr more ↦ inr (place - length g.blocks, omega arith, ap (λ (r : Row). r.0) (is_pair load g place more))
]

module _ (m : KeyMap) (d : Desk) (load : ℕ) (g : GeographyModel) (done rows : ℕ) (is : IsDeskMap m d) (mark : Has m (begun load) []) (unsealed : Lacks m seal) where
  pub batch_is : load < 2 ^ 64 → length g.blocks ≤ 2 ^ 32 → length g.pairs ≤ 2 ^ 32 → done + rows ≤ geography_rows g → IsDeskMap (put_rows m (staged_rows load g done rows)) d
  batch_is load_fits blocks_few pairs_few within =
      let after = staged_tidy m is.tidy load (staged_rows load g done rows) load_fits (inr mark)
      (told_all (λ row. IsLoadKey load row.0) (λ k. staged_row load g (done + k)) rows (λ k less. load_key load g (done + k) blocks_few pairs_few (omega arith))) in
      let desk : IsDesk (put_rows m (staged_rows load g done rows)) d =
      search (arith, without, no_geography, (batch_unseen m load g done rows d.plans)) in
      record { desk = desk; tidy = after.0; version = after.2 ∙ is.version; limits = is.limits }

  pub batch_mark : Has (put_rows m (staged_rows load g done rows)) (begun load) []
  batch_mark = batch_tag m load g done rows 76 (λ same. absurd (omega arith)) _ ∙ mark

  pub batch_unsealed : Lacks (put_rows m (staged_rows load g done rows)) seal
  batch_unsealed = batch_tag m load g done rows 83 (λ same. absurd (omega arith)) [] ∙ unsealed

-- ---- the seal
pub seal_is : (m : KeyMap) (d : Desk) (load : ℕ) (g : GeographyModel) → IsDeskMap m d → IsStaged m load g (geography_rows g) → Has m (begun load) [] → Lacks m seal → IsGeographyModel g → load < 2 ^ 64 → length g.pairs < 2 ^ 32 → IsDeskMap (sealed_rows load g m) (desk_with g d.plans)
seal_is m d load g is staged mark unsealed sound load_fits pairs_fit =
    let s : SealRow = record { load = load; blocks = length g.blocks; pairs = length g.pairs } in
    let after = sealed_tidy m is.tidy s load_fits unsealed mark in
    let desk = sealed_desk m load g d.plans staged sound load_fits pairs_fit (subst (λ (e : Desk). IsDesk m e) (without d (no_geography m d is.desk unsealed)) is.desk) in
    record { desk = desk; tidy = after.0; version = after.2 ∙ is.version; limits = record { few = is.limits.few; sizes = is.limits.sizes } }
