-- Runs of a clerk whose store is swept between commands, and what a stop at any moment of one leaves.
use Rattle.std.specs.Prelude.{◌≡◌, ◌≤◌, ℕ, Bool, true, false, if◌then◌else◌, List, [], ◌∷◌, ◌++◌}
use Rattle.{desk_model.specs.{claim.Step.step, declared.{command.Command.Command, reply.Reply.Reply}}, desk_store.specs.{claim.Commands.Does, declared.clerk.Clerk.Clerk}}
use Rattle.desk_store.specs.{claim.Clerks.{desk_of, disk_of, free_of, pages_of, sectors_of, HaltsByDevice, Keeps, Moves}, plan_revisions_sweeps.claim.Checks.AreSoundHoldings}
use Rattle.{desk_store_rows.specs.claim.Rows.KeyMap, desk_theorem_runs.specs.claim.Runs.{Call, after, if_accepted, acknowledged, OpenSince}}
use Rattle.{page_btree.specs.gets.claim.Map.InPages as HoldsRows, page_store.specs.claim.Transactions.IsQuiet, sector_device.specs.declared.SectorDevice.Ghosts}

module _ {D : Type 0} {g : Ghosts D} where
  -- A step of a sweep, or the check before the first: the desk that is shown stays, and each image opens to it. Nothing is written
  -- before each chunk's count was found to be that of the plans that hold it, and each plan to hold what it names.
  pub record Tends (was_checked : Bool) (x : Clerk D g) (is_checked : Bool) (y : Clerk D g) : Type 0 where
    pub moves : Moves (desk_of x) x y
    pub desk : desk_of y ≡ desk_of x
    pub loading : y.loading ≡ x.loading
    pub quiet : was_checked ≡ false → IsQuiet (pages_of x) (pages_of y)
    pub sound : was_checked ≡ false → is_checked ≡ true → (disk_of y).is_honest → (m : KeyMap) → HoldsRows (pages_of x) m → AreSoundHoldings m
    pub free : was_checked ≡ true → Keeps x → (disk_of y).is_honest → y.halted ≡ false → free_of x ≤ free_of y
    pub device : HaltsByDevice x y

  -- commands, one after the other, and steps of sweeps between them; and whether the holdings were checked before and after them
  pub data SweptRun : Bool → Clerk D g → List Call → Bool → Clerk D g → Type 0 where
    over : (a : Bool) (x : Clerk D g) → SweptRun a x [] a x
    went : (a : Bool) (x : Clerk D g) (c : Command) (r : Reply) (y : Clerk D g) (calls : List Call) (b : Bool) (z : Clerk D g)
        → Does x c r y → SweptRun a y calls b z → SweptRun a x ((c, r) ∷ calls) b z
    tended : (a : Bool) (x : Clerk D g) (m : Bool) (y : Clerk D g) (calls : List Call) (b : Bool) (z : Clerk D g)
        → Tends a x m y → SweptRun m y calls b z → SweptRun a x calls b z

  -- the device's moment right after each acknowledged command, at which its call returned
  abbrev pub acknowledged_at : (a : Bool) (x : Clerk D g) (calls : List Call) (b : Bool) (z : Clerk D g) → SweptRun a x calls b z → List ℕ
  acknowledged_at a x _ _ z (SweptRun.over _ _) = []
  acknowledged_at a x _ b z (SweptRun.went _ _ c r y calls _ _ does run) = if_accepted (disk_of y).moment r ++ acknowledged_at a y calls b z run
  acknowledged_at a x calls b z (SweptRun.tended _ _ m y _ _ _ tends run) = acknowledged_at m y calls b z run

  -- the command in which a fault came, if the desk before it accepts it; none where the fault came in a sweep
  abbrev pub in_flight : (a : Bool) (x : Clerk D g) (calls : List Call) (b : Bool) (z : Clerk D g) → SweptRun a x calls b z → List Command
  in_flight a x _ _ z (SweptRun.over _ _) = []
  in_flight a x _ b z (SweptRun.went _ _ c r y calls _ _ does run) = if y.halted then if_accepted c (step (desk_of x) c).0 else in_flight a y calls b z run
  in_flight a x calls b z (SweptRun.tended _ _ m y _ _ _ tends run) = if y.halted then [] else in_flight m y calls b z run

  -- A run leaves the desk after the acknowledged commands. Since the call of the j-th of them returned, each image opens to the desk after
  -- at least j of them, the command in flight after them.
  pub record SurvivesSwept (a : Bool) (x : Clerk D g) (calls : List Call) (b : Bool) (z : Clerk D g) (run : SweptRun a x calls b z) : Type 0 where
    pub desk : desk_of z ≡ after (desk_of x) (acknowledged calls)
    pub halted : z.halted ≡ false → in_flight a x calls b z run ≡ []
    pub since : OpenSince (disk_of z) (sectors_of x) (desk_of x) (disk_of x).moment
        (acknowledged_at a x calls b z run) (acknowledged calls ++ in_flight a x calls b z run)

  -- where the store keeps the desk, the clerk hasn't halted and the device is honest to the end
  abbrev pub SurvivesEachSwept : Clerk D g → Type 0
  SurvivesEachSwept x = (a : Bool) (calls : List Call) (b : Bool) (z : Clerk D g) (run : SweptRun a x calls b z)
      → Keeps x → x.halted ≡ false → (disk_of z).is_honest → SurvivesSwept a x calls b z run
