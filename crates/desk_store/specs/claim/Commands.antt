-- What a clerk makes of a command.
use Rattle.std.specs.Prelude.{◌≡◌, ◌⊎◌, ◌≤◌, ◌<◌, ◌+◌, ◌*◌, ℕ, true, false, length}
use Rattle.desk_model.specs.{claim.{Desk.Desk, Outcome.{IsAcceptance, CommandMay, RefusalMay}, Room.{need, command_rows}, Step.step}, declared.command.Command.Command}
use Rattle.{desk_model.specs.declared.reply.{Refusal.{Refusal, TheVariants.Halted}, Reply.{Reply, TheVariants.Refused}}, desk_store.specs.declared.clerk.Clerk.Clerk}
use Rattle.desk_store.specs.{claim.Clerks.{desk_of, disk_of, free_of, pages_of, room_of, HaltsByDevice, Keeps, Moves}, declared.ready.Ready.Ready}
use Rattle.{desk_store_catalogue.specs.claim.Accepting.{IsAfter, acceptance}, desk_store_opening.specs.plan_revisions.claim.{Rows.HasNumbers, Steps.IsDeep}}
use Rattle.{desk_store_pages.specs.claim.{Commits.HoldsAfter, Desks.IsDeskMap, Puts.IsStoredNear}, desk_store_rows.specs.claim.{Rows.KeyMap, Tidy.{IsNext, CountersFit}}}
use Rattle.{desk_store_rows.specs.declared.value.Counters.Counters, page_btree.specs.gets.claim.Map.InPages as HoldsRows, page_store.specs.claim.Chain.free_in}
use Rattle.page_store.specs.{claim.Transactions.{stored, disk_in, count_of, prepared_pages, prepared_writes, after, IsQuiet}, declared.{pages.Pages.Pages, txn.Txn.Txn}}
use Rattle.{page_store.specs.declared.txn.Prepared.Prepared as Written, sector_device.specs.declared.SectorDevice.Ghosts}

abbrev pub command_of : Ready → Command
command_of r = r.command.value

abbrev pub after_of : Ready → Desk
after_of r = r.after.value

abbrev pub written_of : Ready → Written
written_of r = r.prepared

module _ {D : Type 0} {g : Ghosts D} where
  -- the pages after a commit hold the desk
  pub record HoldsNext (made : Written) (x : Clerk D g) (d : Desk) : Type 0 where
    pub m : KeyMap
    pub holds : HoldsAfter made (stored (pages_of x)) m
    pub is : IsDeskMap m d

  -- so few numbers are left that the command's aren't
  pub record IsExhausted (x : Clerk D g) (c : Command) : Type 0 where
    pub m : KeyMap
    pub holds : HoldsRows (pages_of x) m
    pub next : Counters
    pub fit : CountersFit next
    pub is_next : IsNext m next
    pub none : HasNumbers (desk_of x) c next → ⊥

  -- the tree had six levels in the command's transaction, and the stored tree was near enough to that for the command's rows
  pub record HasDeepened (x : Clerk D g) (c : Command) : Type 0 where
    pub txn : Txn
    pub deep : IsDeep (command_rows (desk_of x) c) txn (pages_of x)
    pub near : IsStoredNear (command_rows (desk_of x) c) (pages_of x)

  -- too few pages are free, or a commit may write too few
  abbrev pub IsShort : Clerk D g → Command → Type 0
  IsShort x c = (free_of x < need (desk_of x) c) ⊎ (room_of x < need (desk_of x) c)

  -- There is too little room for the command: that of an honest device is told exactly, but for the numbers and the depth of the
  -- tree, which the transaction alone finds out.
  abbrev pub MustBeFull : Clerk D g → Command → Type 0
  MustBeFull x c = (disk_of x).is_honest × IsShort x c

  abbrev pub MayBeFull : Clerk D g → Pages D g → Command → Type 0
  MayBeFull x b c = Keeps x → (disk_in b).is_honest → IsShort x c ⊎ (IsExhausted x c ⊎ HasDeepened x c)

  -- a command was accepted, and its pages were made ready: all but the commit is done
  pub record IsReady (x : Clerk D g) (r : Ready) : Type 0 where
    pub pages : prepared_pages (written_of r) ≡ count_of (pages_of x)
    pub writes : length (prepared_writes (written_of r)) ≤ room_of x
    pub accepted : IsAfter (desk_of x) (command_of r) (after_of r)
    pub the_geography : (after_of r).geography ≡ (desk_of x).geography
    pub rows : Keeps x → x.halted ≡ false → (disk_of x).is_honest → HoldsNext (written_of r) x (after_of r)
    pub free : Keeps x → x.halted ≡ false → (disk_of x).is_honest
        → free_of x ≤ length (free_in (after (written_of r) (stored (pages_of x)))) + need (desk_of x) (command_of r)
    pub numbers : (disk_of x).is_honest → IsExhausted x (command_of r) → ⊥

  -- there is room for so many rows: a row writes 13 pages at most
  pub record HasRoom (x : Clerk D g) (rows : ℕ) : Type 0 where
    pub journal : 13 * rows ≤ room_of x
    pub free : x.halted ≡ false → (disk_of x).is_honest → 13 * rows ≤ free_of x

  -- or too little
  abbrev pub LacksRoom : Clerk D g → ℕ → Type 0
  LacksRoom x rows = (room_of x < 13 * rows) ⊎ (x.halted ≡ false → (disk_of x).is_honest → free_of x < 13 * rows)

  -- the change was made, or a fault came now or before
  pub record IsMade (x : Clerk D g) (r : Ready) (reply : Reply) (y : Clerk D g) : Type 0 where
    pub reply_is : reply ≡ acceptance (command_of r)
    pub desk : desk_of y ≡ after_of r
    pub working : x.halted ≡ false
    pub works : y.halted ≡ false
    pub free : Keeps x → (disk_of y).is_honest → free_of x ≤ free_of y + need (desk_of x) (command_of r)

  pub record IsNotMade (x : Clerk D g) (reply : Reply) (y : Clerk D g) : Type 0 where
    pub reply_is : reply ≡ Refused Halted
    pub desk : desk_of y ≡ desk_of x
    pub halted : y.halted ≡ true

  pub record Commits (x : Clerk D g) (r : Ready) (reply : Reply) (y : Clerk D g) : Type 0 where
    pub moves : Moves (after_of r) x y
    pub outcome : IsMade x r reply y ⊎ IsNotMade x reply y
    pub device : HaltsByDevice x y
    -- a load that is under way stays so
    pub loading : y.loading ≡ x.loading

  -- why nothing was made ready
  abbrev pub PrepareErr : Clerk D g → Command → Refusal → Clerk D g → Type 0
  PrepareErr x c refusal y = RefusalMay (MustBeFull x c) (MayBeFull x (pages_of y) c) (y.halted ≡ true) (desk_of x) c refusal (desk_of y)

  -- what became of a command
  pub record Does (x : Clerk D g) (c : Command) (reply : Reply) (y : Clerk D g) : Type 0 where
    pub moves : Moves (step (desk_of x) c).1 x y
    pub outcome : CommandMay (MustBeFull x c) (MayBeFull x (pages_of y) c) (y.halted ≡ true) (desk_of x) c reply (desk_of y)
    -- an accepted command takes no more pages than it needs, and no other takes any
    pub free : Keeps x → (disk_of y).is_honest → IsAcceptance reply → free_of x ≤ free_of y + need (desk_of x) c
    -- and the numbers that it asks for were left
    pub numbers : (disk_of y).is_honest → IsAcceptance reply → IsExhausted x c → ⊥
    pub spared : (disk_of y).is_honest → y.halted ≡ false → (IsAcceptance reply → ⊥) → free_of y ≡ free_of x
    -- a command that isn't accepted leaves the desk, and without a fault it only reads: a stop at any moment of it leaves the desk before
    pub shown : (IsAcceptance reply → ⊥) → desk_of y ≡ desk_of x
    pub quiet : y.halted ≡ false → (IsAcceptance reply → ⊥) → IsQuiet (pages_of x) (pages_of y)
    pub device : HaltsByDevice x y
    -- a load that is under way stays so
    pub loading : y.loading ≡ x.loading
