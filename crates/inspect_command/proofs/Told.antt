-- What a clerk tells of the room for a command.
use Rattle.{std.proofs.Common.{rules, ◌≡◌, ℕ, Option, length, refl, sym, subst}, desk_model.specs.claim.{Geography.GeographyModel, Room.command_rows}}
use Rattle.{desk_model.specs.declared.command.Command.{Command, TheVariants.Fork}, inspect_command.specs.{Needs.{IsNeed, AreNeeded}, declared.{figures.Held.Held, needs.Need.Need}}}
use Rattle.inspect_command.specs.{Figures.{blocks_in, pairs_in, plan_lines, revisions_in, TellsNeed, AreHeld}, declared.needs.RowsNeeded.RowsNeeded}
use Rattle.{sector_device.specs.declared.SectorDevice.Ghosts, store_command.specs.desk_store.{claim.Clerks.{desk_of, disk_of, free_of, room_of}, declared.clerk.Clerk.Clerk}}

module _ {D : Type 0} {g : Ghosts D} where
  pub tells_need : (x : Clerk D g) (c : Command) (free journal rows : ℕ) (n : Need) → IsNeed free journal rows n → journal ≡ room_of x → ((disk_of x).is_honest → free ≡ free_of x) → command_rows (desk_of x) c ≡ rows → TellsNeed x c n
  tells_need x c free journal rows n is room same are =
      let here : IsNeed free (room_of x) (command_rows (desk_of x) c) n = subst (λ (k : ℕ). IsNeed free (room_of x) k n) (sym are) (subst (λ (k : ℕ). IsNeed free k rows n) room is) in
      search rules

  -- the room that is told, and the desk
  pub record IsTold (x : Clerk D g) (needed : RowsNeeded) (held : Held) : Type 0 where
    pub journal : held.journal_pages ≡ room_of x
    pub free : (disk_of x).is_honest → held.free_pages ≡ free_of x
    pub revision : IsNeed held.free_pages held.journal_pages needed.revision held.revision
    pub patch : IsNeed held.free_pages held.journal_pages needed.patch held.patch
    pub fork : IsNeed held.free_pages held.journal_pages needed.fork held.fork
    pub blocks : held.blocks ≡ blocks_in (desk_of x).geography
    pub pairs : held.pairs ≡ pairs_in (desk_of x).geography
    pub plans : held.plans ≡ length (plan_lines (desk_of x))
    pub revisions : held.revisions ≡ revisions_in (plan_lines (desk_of x))

  pub are_held : (x : Clerk D g) (needed : RowsNeeded) (held : Held) (area : Option GeographyModel) → area ≡ (desk_of x).geography → AreNeeded area needed held.counties → IsTold x needed held → AreHeld x held
  are_held x needed held area same are_as told =
      let are : AreNeeded (desk_of x).geography needed held.counties = subst (λ (o : Option GeographyModel). AreNeeded o needed held.counties) same are_as in
      record {
        journal = told.journal;
        free = told.free;
        blocks = told.blocks;
        counties = are.counties_are;
        pairs = told.pairs;
        plans = told.plans;
        revisions = told.revisions;
        revision = λ c revises. tells_need x c held.free_pages held.journal_pages needed.revision held.revision told.revision told.journal told.free (are.revision (desk_of x) c refl revises);
        place = are.place;
        largest = are.largest;
        patch = λ c revises. tells_need x c held.free_pages held.journal_pages needed.patch held.patch told.patch told.journal told.free (are.patch (desk_of x) c refl revises);
        fork = λ name from. tells_need x (Fork name from) held.free_pages held.journal_pages needed.fork held.fork told.fork told.journal told.free (are.fork (desk_of x) name from refl);
        none = λ is. search rules;
      }
