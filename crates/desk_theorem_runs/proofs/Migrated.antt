-- What a stop in the midst of a migration leaves.
use Rattle.{std.proofs.{Common.{◌≡◌, ℕ, false, inr, subst, rules}, lemmas.Bool.cases_Bool}, desk_migration.specs.claim.Migrating.{disk_of, is_halted, sectors_of, Keeps, Goes}}
use Rattle.{desk_migration.specs.declared.migration.Migration.Migration, desk_model.specs.claim.Desk.Desk, desk_store_pages.specs.claim.Desks.{OpensOld, OpensEither}}
use Rattle.{desk_theorem_runs.specs.claim.Migrations.Migrates, sector_device.specs.{claim.Moments.LeavesOnly, declared.SectorDevice.Ghosts}, page_store.proofs.Stops.leaves_here}
use Rattle.sector_device.proofs.Moments.{leaves_more, leaves_wider}

module _ {D : Type 0} {g : Ghosts D} where
  pub honest_migration : (x : Migration D g) (z : Migration D g) → Migrates x z → (disk_of z).is_honest → (disk_of x).is_honest
  honest_migration x _ (Migrates.over _) honest = honest
  honest_migration x z (Migrates.went _ y _ moves rest) honest = moves.goes.honest (honest_migration y z rest honest)
  honest_migration x z (Migrates.ended _ _ ends) honest = ends.goes.honest honest

  -- each image that a stop now leaves opens to the desk that it keeps
  here : (x : Migration D g) (d : Desk) → Keeps x d → (disk_of x).is_honest → LeavesOnly (OpensEither (sectors_of x) d) (disk_of x) (disk_of x)
  here x d keeps honest = leaves_here (OpensEither (sectors_of x) d) (disk_of x) (λ c leaves. inr (keeps.left honest c leaves))

  -- so does each that a stop leaves within a call: one that has halted changes nothing
  within : (x : Migration D g) (y : Migration D g) (d : Desk) → Goes x y → Keeps x d → (disk_of y).is_honest
      → (is_halted x ≡ false → LeavesOnly (OpensEither (sectors_of x) d) (disk_of x) (disk_of y)) → LeavesOnly (OpensEither (sectors_of x) d) (disk_of x) (disk_of y)
  within x y d goes keeps honest working = search (rules, cases_Bool, here)

  pub migration_leaves : (x : Migration D g) (z : Migration D g) → Migrates x z → (d : Desk) → Keeps x d → (disk_of z).is_honest → LeavesOnly (OpensEither (sectors_of x) d) (disk_of x) (disk_of z)
  migration_leaves x _ (Migrates.over _) d keeps honest = here x d keeps honest
  migration_leaves x z (Migrates.went _ y _ moves rest) d keeps honest =
      let then = honest_migration y z rest honest in
      let first = within x y d moves.goes keeps then (λ off. leaves_wider (OpensOld (sectors_of x) d) (OpensEither (sectors_of x) d) (disk_of x) (disk_of y) (λ c old. inr old) (moves.any_moment d keeps off then)) in
      let second = subst (λ (n : ℕ). LeavesOnly (OpensEither n d) (disk_of y) (disk_of z)) moves.goes.sectors (migration_leaves y z rest d (moves.keeps d keeps) honest) in
      leaves_more (OpensEither (sectors_of x) d) (disk_of x) (disk_of y) (disk_of z) first second
  migration_leaves x z (Migrates.ended _ _ ends) d keeps honest = within x z d ends.goes keeps honest (λ off. ends.any_moment d keeps off honest)
