-- What a step of a sweep answers.
use Rattle.std.specs.Prelude.{◌≡◌, ◌≤◌, ◌↔◌, ℕ, Bool, true, false, Option, Result, OnOk, IfOk, IfErr, IfSome}
use Rattle.desk_store.specs.{Sweeps.{HasRows, IsClean, SweepRefused}, claim.Clerks.{disk_of, is_halted, pages_of}, declared.clerk.Clerk.Clerk}
use Rattle.{desk_store_pages.specs.declared.error.StoreError.StoreError, desk_store_rows.specs.claim.Rows.KeyMap, sector_device.specs.declared.SectorDevice.Ghosts}

module _ {D : Type 0} {g : Ghosts D} where
  -- What a step of a sweep answers: how many rows it took out or changed, 0 only where none is left; no number where it checked the
  -- holdings; or why it did neither.
  pub record StepMay (was_checked : Bool) (x : Clerk D g) (did : Result (Option ℕ) StoreError) (y : Clerk D g) : Type 0 where
    pub working : OnOk did ((is_halted x ≡ false) × (is_halted y ≡ false))
    pub few : IfOk did (λ swept. IfSome swept (λ count. (was_checked ≡ true) × (count ≤ 16)))
    pub exact : (disk_of y).is_honest → (m : KeyMap) → HasRows x m → IfOk did (λ swept. IfSome swept (λ count. (count ≡ 0) ↔ IsClean x m))
    pub err : IfErr did (λ e. SweepRefused x e (is_halted y) (pages_of y))
