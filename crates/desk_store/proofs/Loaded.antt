-- Loads at a clerk.
use Rattle.{std.specs.{Cmp.Lexicographic.nat_list_cmp_total, FinMap.{get-empty, same_map, slice_cmp-IsAntisymmetric, nat_cmp-IsAntisymmetric}}, desk_store.proofs.Done.OneOf}
use Rattle.std.proofs.Common.{rules, ◌≡◌, ◌⊎◌, ◌<◌, ℕ, true, false, List, Option, Some, None, Result, Ok, Err, inl, inr, ⊎_elim, refl, sym, ap, subst, ◌∙◌}
use Rattle.{desk_model.specs.claim.{Desk.{Desk, Plan, name_cmp}, Geography.GeographyModel}, desk_store.specs.{Calls.{LoadsBatch, SealsLoad}, Failures.is_failure}}
use Rattle.desk_store.specs.{Keeping.sealed_desk, Loads.{Stages, BeginRefused, EndRefused, StepRefused, BatchRefused, SealRefused}, declared.clerk.Clerk.Clerk}
use Rattle.{desk_store.specs.claim.Clerks.{desk_of, disk_of, pages_of, sectors_of, MovesIf}, desk_store_opening.specs.geo_tables.Refusals.{BeginErr, RowsErr}}
use Rattle.{desk_store_opening.specs.geo_tables.{Loading.{HoldsLoad, OpensOrIsSealed, geography_model_of}, declared.load.Load.Load}, desk_store_pages.specs.Commits.Commits}
use Rattle.{desk_store_pages.specs.{Moments.StopsLeave, claim.Desks.{InPages, OpensDesk}, declared.error.StoreError.StoreError}, desk_store_rows.specs.Changes.desk_with}
use Rattle.{desk_store_pages.specs.declared.error.StoreError.TheVariants.{AlreadySealed, Memory, DeviceFault, Halted}, desk_store_rows.specs.claim.DeskRows.{IsDesk, IsPlanAt}}
use Rattle.{desk_store_rows.specs.claim.{Puts.Row, Rows.KeyMap}, page_store.specs.{Outcomes.Commits as Fulfils, claim.Transactions.{disk_in, has_halted, HasFailed, IsQuiet}}}
use Rattle.{page_store.specs.declared.pages.Pages.Pages, sector_device.{specs.{claim.Moments.LeavesOnly, declared.SectorDevice.Ghosts}, proofs.Moments.leaves_wider}}
use Rattle.desk_store.proofs.Moved.{Left, faulted, with_pages, worked}
use Rattle.desk_store_opening.proofs.chunk_table.Committing.{both}
use Rattle.std.specs.FinMap as map_of

-- a desk without geography has no plan
no_plans : (m : KeyMap) (d : Desk) → IsDesk m d → d.geography ≡ None → d.plans ≡ map_of.empty
no_plans m d is none = same_map nat_list_cmp_total (slice_cmp-IsAntisymmetric nat_cmp-IsAntisymmetric) d.plans map_of.empty (λ name. missing name (map_of.get d.plans name) (subst (λ (geo : Option GeographyModel). IsPlanAt m geo name (map_of.get d.plans name)) none (is.plans name)) ∙ sym (get-empty name_cmp name))
  where
    missing : (name : List ℕ) (p : Option Plan) → IsPlanAt m None name p → p ≡ None
    missing name None at = refl
    missing name (Some p) at = absurd at

module _ {D : Type 0} {g : Ghosts D} where
  -- ---- refusals
  -- by a fault, by pages that had halted, or with no page changed
  abbrev pub IsRefusedBy : Pages D g → Pages D g → StoreError → Type 0
  IsRefusedBy a b DeviceFault = HasFailed a b
  IsRefusedBy a b Halted = has_halted a ≡ true
  IsRefusedBy a b _ = IsQuiet a b

  -- what is told as a fault was one
  pub refused_failed : (x : Clerk D g) (b : Pages D g) (e : StoreError) → x.halted ≡ false → IsRefusedBy (pages_of x) b e → (is_failure e ≡ true) ⊎ (has_halted b ≡ true) → HasFailed (pages_of x) b
  refused_failed x b DeviceFault working told on = told
  refused_failed x b Halted working told on = both (has_halted (pages_of x)) told (x.working working)
  refused_failed x b _ working told on = ⊎_elim (λ clash. absurd (cc)) (λ halted. record { worked = x.working working; halted = halted; rose = told.rose (x.working working) halted }) on

  pub refused_quiet : (a b : Pages D g) (e : StoreError) → is_failure e ≡ false → IsRefusedBy a b e → IsQuiet a b
  refused_quiet a b Memory off told = told
  refused_quiet a b _ off told = search rules

  -- ---- a step of a load or a sweep, before which the pages held this of the desk, and which shows that desk
  page_commits : {T E : Type 0} {failed : E → Type 0} {a b : Pages D g} {r : Result T E} → Commits failed a b r → Fulfils a b r
  page_commits commits = record { shape = commits.shape; honest = commits.honest; kept = commits.kept; passed = commits.passed }

  module _ {sound : Type 0} (x : Clerk D g) (working : x.halted ≡ false) (before : Desk → Type 0) (held : sound → x.halted ≡ false → (disk_of x).is_honest → before (desk_of x)) where
    step_left : (b : Pages D g) → ((disk_in b).is_honest → (disk_of x).is_honest) → StopsLeave before OpensDesk (pages_of x) b → Left sound (desk_of x) x b
    step_left b honest left is is_honest = leaves_wider (OpensDesk (sectors_of x) (desk_of x)) (OneOf x (desk_of x)) (disk_of x) (disk_in b) (λ c opens. inl opens) (left is_honest (x.working working) (sectors_of x) (desk_of x) refl (held is working (honest is_honest)))

    module _ {T : Type 0} {failed : StoreError → Type 0} {b : Pages D g} where
      pub step_faulted : {e : StoreError} → Commits {T = T} failed (pages_of x) b (Err e) → StopsLeave before OpensDesk (pages_of x) b → ((disk_in b).is_honest → (disk_of x).faults < (disk_in b).faults)
          → (loading : Option ℕ) (works : true ≡ false → has_halted b ≡ false) → MovesIf sound (desk_of x) x (with_pages x b loading true works)
      step_faulted commits left rose loading works = faulted sound (desk_of x) x (with_pages x b loading true works) working refl refl (page_commits commits) (step_left b commits.honest left) (λ is honest. inl refl) rose

      pub step_worked : {v : T} → Commits failed (pages_of x) b (Ok v) → StopsLeave before OpensDesk (pages_of x) b → ((disk_in b).is_honest → (d : Desk) → before d → InPages b d)
          → (loading : Option ℕ) (works : x.halted ≡ false → has_halted b ≡ false) → MovesIf sound (desk_of x) x (with_pages x b loading x.halted works)
      step_worked commits left holds loading works =
          worked sound (desk_of x) x (with_pages x b loading x.halted works) working working (page_commits commits) (step_left b commits.honest left) (λ is honest. holds honest (desk_of x) (held is working (commits.honest honest)))

    pub step_stages : {b : Pages D g} (load : Load) → ((disk_in b).is_honest → (disk_of x).is_honest) → ((disk_in b).is_honest → (d : Desk) → before d → HoldsLoad b d load)
        → (loading : Option ℕ) (works : x.halted ≡ false → has_halted b ≡ false) → MovesIf sound (desk_of x) x (with_pages x b loading x.halted works) → sound → Stages (with_pages x b loading x.halted works) load
    step_stages load honest begun loading works moves is = record { keeps = moves.keeps is; holds = λ off is_honest. begun is_honest (desk_of x) (held is working (honest is_honest)) }

  -- what holds a load holds the desk
  pub load_desk : {b : Pages D g} {d : Desk} {load : Load} → HoldsLoad b d load → InPages b d
  load_desk holds = record { m = holds.m; holds = holds.holds; is = holds.is }

  -- ---- begin
  pub begin_told : (area : GeographyModel) (a b : Pages D g) (e : StoreError) → BeginErr area a b e → IsRefusedBy a b e
  begin_told area a b DeviceFault why = why
  begin_told area a b _ why = search rules

  pub begin_refused : (area : GeographyModel) (x : Clerk D g) (b : Pages D g) (e : StoreError) → x.halted ≡ false → ((disk_in b).is_honest → (disk_of x).is_honest) → is_failure e ≡ false → BeginErr area (pages_of x) b e → BeginRefused area x e x.halted b
  begin_refused area x b AlreadySealed working honest off why = (refl, λ keeps is_honest. why.1 is_honest (desk_of x) (keeps.holds working (honest is_honest)))
  begin_refused area x b _ working honest off why = search rules

  -- ---- a batch and the seal
  module _ (load : Load) (rows : ℕ) (all : List Row) where
    pub rows_told : (a b : Pages D g) (e : StoreError) → RowsErr load rows all a b e → IsRefusedBy a b e
    rows_told a b DeviceFault why = why.1
    rows_told a b _ why = search rules

    pub rows_refused : (x : Clerk D g) (b : Pages D g) (e : StoreError) → x.halted ≡ false → is_failure e ≡ false → RowsErr load rows all (pages_of x) b e → StepRefused (RowsErr load rows all (pages_of x) b) load x e x.halted b
    rows_refused x b Memory working off why = (working, why.0)
    rows_refused x b _ working off why = search rules

  pub step_ended : (why : StoreError → Type 0) (load : Load) (x : Clerk D g) (b : Pages D g) (e : StoreError) → EndRefused load x e → StepRefused why load x e x.halted b
  step_ended why load x b Halted is = (is, λ working. both x.halted is working)
  step_ended why load x b _ is = search rules

  pub batch_stopped : {was load : Load} {rows : ℕ} {x y : Clerk D g} {e : StoreError} → MovesIf (Stages x was) (desk_of x) x y → desk_of y ≡ desk_of x → y.loading ≡ x.loading → (y.halted ≡ false → IsQuiet (pages_of x) (pages_of y)) → load ≡ was
      → BatchRefused was rows x e y.halted (pages_of y) → LoadsBatch was load rows x y (Err e)
  batch_stopped moves desk loading quiet same why =
      record { moves = moves; loads = record { desk = desk; working = tt; quiet = quiet }; staged = λ is. tt; last = tt; further = tt; left = tt; same = same; loading = loading; err = why }

  pub seal_stopped : {load other : Load} {x y : Clerk D g} {e : StoreError} → MovesIf (Stages x load) (sealed_desk (geography_model_of load)) x y → desk_of y ≡ desk_of x → y.loading ≡ x.loading → (y.halted ≡ false → IsQuiet (pages_of x) (pages_of y))
      → other ≡ load → SealRefused load x e y.halted (pages_of y) → SealsLoad load x y (Err (e, other))
  seal_stopped moves desk loading quiet back why = record { moves = moves; sealed = tt; unsealed = desk; back = back; loading = loading; working = tt; quiet = quiet; err = why }

  -- ---- the seal
  module _ (x : Clerk D g) (load : Load) (working : x.halted ≡ false) (none : (desk_of x).geography ≡ None) where
    plans_are : HoldsLoad (pages_of x) (desk_of x) load → desk_with (geography_model_of load) (desk_of x).plans ≡ sealed_desk (geography_model_of load)
    plans_are holds = ap (λ (p : map_of.FinMap name_cmp Plan). desk_with (geography_model_of load) p) (no_plans holds.m (desk_of x) holds.is.desk none)

    seal_left : (b : Pages D g) → ((disk_in b).is_honest → (disk_of x).is_honest) → StopsLeave (λ d. HoldsLoad (pages_of x) d load) (OpensOrIsSealed load) (pages_of x) b → Left (Stages x load) (sealed_desk (geography_model_of load)) x b
    seal_left b honest left stages is_honest =
        let holds = stages.holds working (honest is_honest) in
        subst (λ (e : Desk). LeavesOnly (OneOf x e) (disk_of x) (disk_in b)) (plans_are holds) (left is_honest (x.working working) (sectors_of x) (desk_of x) refl holds)

    pub seal_faulted : {T : Type 0} {failed : StoreError → Type 0} {b : Pages D g} {e : StoreError} → Commits {T = T} failed (pages_of x) b (Err e) → StopsLeave (λ d. HoldsLoad (pages_of x) d load) (OpensOrIsSealed load) (pages_of x) b → HasFailed (pages_of x) b
        → (works : true ≡ false → has_halted b ≡ false) → MovesIf (Stages x load) (sealed_desk (geography_model_of load)) x (with_pages x b x.loading true works)
    seal_faulted {T} {failed} {b} commits left fault works =
        faulted (Stages x load) (sealed_desk (geography_model_of load)) x (with_pages x b x.loading true works) working refl refl (page_commits commits) (seal_left b commits.honest left)
        (λ stages honest. inr (inr (record { geography = geography_model_of load; none = none; desk = sym (plans_are (stages.holds working (commits.honest honest))) }))) fault.rose

    pub seal_worked : {T : Type 0} {failed : StoreError → Type 0} {v : T} (y : Clerk D g) → y.halted ≡ false → desk_of y ≡ sealed_desk (geography_model_of load) → Commits failed (pages_of x) (pages_of y) (Ok v) → StopsLeave (λ d. HoldsLoad (pages_of x) d load) (OpensOrIsSealed load) (pages_of x) (pages_of y)
        → ((disk_of y).is_honest → (d : Desk) → HoldsLoad (pages_of x) d load → InPages (pages_of y) (desk_with (geography_model_of load) d.plans)) → MovesIf (Stages x load) (sealed_desk (geography_model_of load)) x y
    seal_worked y works desk commits left sealed = worked (Stages x load) (sealed_desk (geography_model_of load)) x y working works (page_commits commits) (seal_left (pages_of y) commits.honest left)
        (λ stages honest.
        let holds = stages.holds working (commits.honest honest) in
        subst (λ (e : Desk). InPages (pages_of y) e) (plans_are holds ∙ sym desk) (sealed honest (desk_of x) holds))
