-- A load that is under way, and the pages that hold its rows.
use Rattle.std.specs.Prelude.{◌≡◌, ◌≤◌, ◌+◌, ◌⊎◌, ℕ, [], Result, Ok, Err}
use Rattle.{desk_model.specs.claim.{Desk.Desk, Geography.GeographyModel}, desk_store_pages.specs.{claim.Desks.{IsDeskMap, OpensDesk}, declared.error.StoreError.StoreError}}
use Rattle.desk_store_rows.specs.{Changes.desk_with, claim.{GeographyRows.{IsStaged, geography_rows}, Keys.{begun, seal}, Rows.{KeyMap, Has, Lacks}}}
use Rattle.{geo_tables.specs.declared.load.Load.Load, page_btree.specs.gets.claim.Map.InPages, page_store.specs.declared.pages.Pages.Pages, sector_device.specs.claim.Disk.Image}
use Rattle.sector_device.specs.declared.SectorDevice.{Ghosts}

-- its number, its geography, and how many of the geography's rows are staged
abbrev pub number_of : Load → ℕ
number_of load = load.number

abbrev pub geography_model_of : Load → GeographyModel
geography_model_of load = load.geography.value

abbrev pub done_of : Load → ℕ
done_of load = load.done

-- The pages hold the desk, which has no geography, and of the load's rows just those that are staged. The load is marked as
-- one that was begun.
pub record HoldsLoad {D : Type 0} {g : Ghosts D} (ps : Pages D g) (d : Desk) (load : Load) : Type 0 where
  pub m : KeyMap
  pub holds : InPages ps m
  pub is : IsDeskMap m d
  pub staged : IsStaged m (number_of load) (geography_model_of load) (done_of load)
  pub mark : Has m (begun (number_of load)) []
  pub unsealed : Lacks m seal

-- a batch was staged: so many rows more of the same load
pub record IsFurther (old new : Load) (rows : ℕ) : Type 0 where
  pub number : number_of new ≡ number_of old
  pub geography : new.geography ≡ old.geography
  pub done : done_of new ≡ done_of old + rows

-- so many rows more, of which a batch may have 512 at most
pub record IsBatch (load : Load) (rows : ℕ) : Type 0 where
  pub few : rows ≤ 512
  pub left : done_of load + rows ≤ geography_rows (geography_model_of load)

-- and so many are left then
pub record LeavesRows (old new : Load) (rows left : ℕ) : Type 0 where
  pub further : IsFurther old new rows
  pub rest : left + done_of new ≡ geography_rows (geography_model_of new)

-- the pages hold what is then of a load, and of one that was just begun
abbrev pub HoldsFurther : {D : Type 0} {g : Ghosts D} → Pages D g → Desk → Load → ℕ → Type 0
HoldsFurther ps d load rows = (next : Load) → IsFurther load next rows → HoldsLoad ps d next

abbrev pub HoldsNew : {D : Type 0} {g : Ghosts D} → Pages D g → Desk → ℕ → Type 0
HoldsNew ps d number = (load : Load) → number_of load ≡ number → done_of load ≡ 0 → HoldsLoad ps d load

-- an image of so many sectors opens to the desk, or to that with the load's geography
abbrev pub OpensOrIsSealed : Load → ℕ → Desk → Image → Type 0
OpensOrIsSealed load sectors d c = OpensDesk sectors d c ⊎ OpensDesk sectors (desk_with (geography_model_of load) d.plans) c

-- a refusal without the load that it hands back
abbrev pub error_alone : Result (Unit {0}) (StoreError × Load) → Result (Unit {0}) StoreError
error_alone (Ok x) = Ok x
error_alone (Err e) = Err e.0
