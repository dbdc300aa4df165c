-- What is told of a clerk's desk, and of the room that is left.
use Rattle.std.specs.Prelude.{◌≡◌, ◌↔◌, ◌-◌, ℕ, IsTrue, List, length, Some, None}
use Rattle.desk_model.specs.{Ranges.{ranges_in, ranges_of}, claim.{Geography.GeographyModel, Room.need}, declared.command.Command.{Command, TheVariants.Fork}}
use Rattle.inspect_command.specs.{Needs.{all_change, one_changes, IsLargest, IsNeed, IsRevision}, declared.{figures.Held.Held, needs.Need.Need}}
use Rattle.{sector_device.specs.declared.SectorDevice.Ghosts, store_command.specs.desk_store.claim.{Clerks.{desk_of, disk_of, free_of, room_of}, Commands.IsShort}}
use Rattle.store_command.specs.desk_store.declared.clerk.Clerk.{Clerk}
pub use Rattle.inspect_command.specs.claim.Living.{blocks_in, pairs_in, plan_lines, revisions_in}

module _ {D : Type 0} {g : Ghosts D} where
  -- The pages that the command needs; that it would be refused as Full by the very clause that commands have; how many free pages are
  -- missing, and how many would be left if it took all of them.
  pub record TellsNeed (x : Clerk D g) (c : Command) (told : Need) : Type 0 where
    pub pages : told.pages ≡ need (desk_of x) c
    pub full : (disk_of x).is_honest → IsTrue told.is_full ↔ IsShort x c
    pub short : (disk_of x).is_honest → told.short ≡ need (desk_of x) c - free_of x
    pub left : (disk_of x).is_honest → told.left ≡ free_of x - need (desk_of x) c

  -- What is told is of the desk that is shown and of its store's pages. Room is told of each command that gives a plan a revision by
  -- which each county changes, of each by which the county at this place alone does, which is a largest one, and of each fork. Without a
  -- geography there are none, and no page is needed.
  pub record AreHeld (x : Clerk D g) (held : Held) : Type 0 where
    pub journal : held.journal_pages ≡ room_of x
    pub free : (disk_of x).is_honest → held.free_pages ≡ free_of x
    pub blocks : held.blocks ≡ blocks_in (desk_of x).geography
    pub counties : held.counties ≡ length (ranges_in (desk_of x).geography)
    pub pairs : held.pairs ≡ pairs_in (desk_of x).geography
    pub plans : held.plans ≡ length (plan_lines (desk_of x))
    pub revisions : held.revisions ≡ revisions_in (plan_lines (desk_of x))
    pub revision : (c : Command) → IsRevision (desk_of x) c (all_change held.counties) → TellsNeed x c held.revision
    pub place : ℕ
    pub largest : (area : GeographyModel) → (desk_of x).geography ≡ Some area → IsLargest (ranges_of area) place
    pub patch : (c : Command) → IsRevision (desk_of x) c (one_changes held.counties place) → TellsNeed x c held.patch
    pub fork : (name : List ℕ) (from : List ℕ × ℕ) → TellsNeed x (Fork name from) held.fork
    pub none : (desk_of x).geography ≡ None → IsNeed held.free_pages held.journal_pages 0 held.revision × IsNeed held.free_pages held.journal_pages 0 held.patch
