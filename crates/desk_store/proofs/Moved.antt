-- Calls that commit, and calls that came to nothing.
use Rattle.{std.{specs.Prelude.{Ok, Err}, proofs.Common.{rules, ◌≡◌, ◌⊎◌, ◌<◌, ◌+◌, ℕ, Option, Bool, true, false, inl}}, desk_model.specs.claim.Desk.Desk}
use Rattle.desk_store.specs.{claim.{Clerks.{desk_of, disk_of, pages_of, sectors_of, Keeps, Reads, MovesIf}, Keeping.IsOneMore}, declared.clerk.Clerk.Clerk}
use Rattle.{desk_store_pages.specs.claim.Desks.InPages, page_store.specs.{Outcomes.Commits as Fulfils, claim.Transactions.{disk_in, has_halted, HasShape, IsQuiet}}}
use Rattle.{page_store.specs.{declared.pages.Pages.Pages, gate_journal.claim.Store.home}, sector_device.specs.{claim.Moments.LeavesOnly, declared.SectorDevice.Ghosts}}
use Rattle.{desk_store.proofs.{Done.{OneOf, left_as, reads_move}, Kept.{kept_opens, left_halted}}, page_store.proofs.Stops.quiet_none}
use Rattle.desk_store_opening.proofs.chunk_table.Committing.{both}

module _ {D : Type 0} {g : Ghosts D} where
  -- the clerk with other pages, another load and another halt
  abbrev pub with_pages : (x : Clerk D g) (b : Pages D g) (loading : Option ℕ) (halted : Bool) → (halted ≡ false → has_halted b ≡ false) → Clerk D g
  with_pages x b loading halted works = record { pages = b; catalogue = x.catalogue; loading = loading; halted = halted; working = works }

  abbrev pub Left : Type 0 → Desk → Clerk D g → Pages D g → Type 0
  Left sound next x b = sound → (disk_in b).is_honest → LeavesOnly (OneOf x next) (disk_of x) (disk_in b)

  shape_sectors : (x y : Clerk D g) → HasShape (pages_of x) (pages_of y) → sectors_of y ≡ sectors_of x
  shape_sectors x y shape = λ i. home (shape.journal_pages i) + shape.pages i

  module _ (sound : Type 0) (next : Desk) (x y : Clerk D g) (working : x.halted ≡ false) {T E : Type 0} where
    -- a commit that was made
    pub worked : {v : T} → y.halted ≡ false → Fulfils {E = E} (pages_of x) (pages_of y) (Ok v) → Left sound next x (pages_of y) → (sound → (disk_of y).is_honest → InPages (pages_of y) (desk_of y)) → MovesIf sound next x y
    worked works commits left holds = record {
      sectors = shape_sectors x y commits.shape;
      room = commits.shape.journal_pages;
      honest = commits.honest;
      any_moment = λ is off. left is;
      keeps = λ is. record {
        holds = λ off. holds is;
        left = λ honest c leaves. inl (kept_opens (pages_of y) (desk_of y) (y.working works) honest (commits.kept honest) (holds is honest) c leaves);
      };
      still = λ on. both x.halted on working;
      rose = λ is off on. both y.halted on works;
      calm = λ off. commits.passed;
    }

    -- one that met a fault
    pub faulted : {e : E} → y.halted ≡ true → desk_of y ≡ desk_of x → Fulfils {A = T} (pages_of x) (pages_of y) (Err e) → Left sound next x (pages_of y)
        → (sound → (disk_of y).is_honest → (next ≡ desk_of x) ⊎ IsOneMore (desk_of x) next) → ((disk_of y).is_honest → (disk_of x).faults < (disk_of y).faults) → MovesIf sound next x y
    faulted halts desk commits left more rose =
        let sectors = shape_sectors x y commits.shape in
        record {
          sectors = sectors;
          room = commits.shape.journal_pages;
          honest = commits.honest;
          any_moment = λ is off. left is;
          keeps = λ is. record {
            holds = λ off. both y.halted halts off;
            left = λ honest c leaves. left_as halts sectors desk (left_halted (sectors_of x) (desk_of x) next (disk_of x) (disk_of y) (more is honest) (left is honest) c leaves);
          };
          still = λ on. both x.halted on working;
          rose = λ is off on. rose;
          calm = λ off. both y.halted halts off;
        }

  as_if : (sound : Type 0) (next : Desk) (x y : Clerk D g) → (sound → Keeps x) → Reads x y → MovesIf sound next x y
  as_if sound next x y gives reads = search (rules, reads_move next x y reads)

  -- nothing was committed, and no fault came
  pub quieted : (sound : Type 0) (next : Desk) (x y : Clerk D g) → (sound → Keeps x) → x.halted ≡ false → y.halted ≡ false → desk_of y ≡ desk_of x → IsQuiet (pages_of x) (pages_of y) → MovesIf sound next x y
  quieted sound next x y gives working works desk quiet = as_if sound next x y gives (search rules)

  -- nothing happened
  pub unmoved : (sound : Type 0) (next : Desk) (x : Clerk D g) → (sound → Keeps x) → MovesIf sound next x x
  unmoved sound next x gives = as_if sound next x x gives (search (rules, quiet_none))
