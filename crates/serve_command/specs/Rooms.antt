-- How much room a store has.
use Rattle.std.specs.Prelude.{◌≡◌, ◌-◌, ◌^◌, ℕ, nat_le, if◌then◌else◌}
use Rattle.{desk_model.specs.{claim.Room.need, declared.command.Command.Command}, inspect_command.specs.{Needs.{all_change, IsRevision}, desk_store.declared.clerk.Clerk.Clerk}}
use Rattle.{inspect_command.specs.desk_store.claim.Clerks.{desk_of, disk_of, free_of}, sector_device.specs.declared.SectorDevice.Ghosts}

-- the greatest u64 stands for all above it
abbrev pub capped : ℕ → ℕ
capped pages = if nat_le pages (2 ^ 64 - 1) then pages else 2 ^ 64 - 1

module _ {D : Type 0} {g : Ghosts D} where
  -- So many pages are free, and so many are asked for by each command that gives a plan a revision by which each of the counties changes.
  pub record IsRoom (x : Clerk D g) (told : ℕ × ℕ) : Type 0 where
    pub free : (disk_of x).is_honest → told.0 ≡ free_of x
    pub counties : ℕ
    pub needs : (c : Command) → IsRevision (desk_of x) c (all_change counties) → told.1 ≡ capped (need (desk_of x) c)

  -- what is served heard of that room
  abbrev pub TellsRoom : {A : Type 0} → (A → ℕ → ℕ → Type 0) → A → Clerk D g → Type 0
  TellsRoom heard listening x = (told : ℕ × ℕ) × IsRoom x told × heard listening told.0 told.1
