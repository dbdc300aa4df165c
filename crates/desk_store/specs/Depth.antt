-- Where a command isn't refused for the depth of the tree.
use Rattle.std.specs.Prelude.{◌≤◌, ◌<◌, ◌+◌, ◌*◌, ℕ, List}
use Rattle.desk_model.specs.{claim.Room.{command_rows, need}, declared.{command.Command.{Command, TheVariants.{Create, Retire}}, kind.Kind.Kind, reply.Refusal.TheVariants.Full}}
use Rattle.{desk_model.specs.declared.reply.Reply.TheVariants.Refused, desk_store.specs.claim.Clerks.{desk_of, disk_of, pages_of, free_of, room_of, Keeps}}
use Rattle.{desk_store.specs.{claim.Commands.{Does, IsExhausted}, declared.clerk.Clerk.Clerk}, page_btree.specs.gets.claim.Errors.level_in, page_store.specs.claim.Chain.root_in}
use Rattle.{page_store.specs.claim.Transactions.stored, sector_device.specs.declared.SectorDevice.Ghosts}

module _ {D : Type 0} {g : Ghosts D} where
  -- the level of the stored tree's root, which is 4 in a tree of five levels
  abbrev pub level_of : Clerk D g → ℕ
  level_of x = level_in (stored (pages_of x)) (root_in (stored (pages_of x)))

  -- a clerk that keeps the desk answered Full to a command, with a device that is honest to its end
  pub record IsAnsweredFull (x : Clerk D g) (c : Command) (y : Clerk D g) : Type 0 where
    pub keeps : Keeps x
    pub does : Does x c (Refused Full) y
    pub honest : (disk_of y).is_honest

-- Where as many pages are free as a command needs, and the journal has as many, Full comes for want of numbers alone over a tree of five
-- levels at most if the command writes fewer than 50 rows, and over one of a level less for each 50 rows more. So with 26 free pages a retire
-- is never answered Full over five levels at most, and a create if no number is left for its plan.
pub record IsNeverDeep (D : Type 0) (g : Ghosts D) : Type 0 where
  pub few_rows : (x y : Clerk D g) (c : Command) → command_rows (desk_of x) c + 50 * level_of x < 250 → need (desk_of x) c ≤ free_of x
      → need (desk_of x) c ≤ room_of x → IsAnsweredFull x c y → IsExhausted x c
  pub retire : (x y : Clerk D g) (name : List ℕ) → level_of x ≤ 4 → 26 ≤ free_of x → IsAnsweredFull x (Retire name) y → ⊥
  pub create : (x y : Clerk D g) (name : List ℕ) (size : Kind × ℕ) → level_of x ≤ 4 → 26 ≤ free_of x
      → IsAnsweredFull x (Create name size) y → IsExhausted x (Create name size)
