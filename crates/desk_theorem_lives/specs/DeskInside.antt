-- What the loops know: which desks the images of a device open to.
use Rattle.std.specs.Prelude.{◌≡◌, ◌⊎◌, ◌≤◌, ◌<◌, ◌++◌, ℕ, true, false, List, None}
use Rattle.{desk_model.specs.{claim.{Desk.Desk, Geography.GeographyModel}, declared.reply.Reply.Reply}, desk_store_catalogue.specs.claim.Audits.AskMay}
use Rattle.{desk_store_pages.specs.claim.Desks.OpensDesk, desk_theorem_lives.specs.claim.DeskLives.{loaded_desk, MayFail, MayRefuse, Failed, Lived}}
use Rattle.desk_theorem_lives.specs.declared.desk_lives.{Answer.{Answer, TheVariants.{Said, Loaded, Unloaded, Swept, Unswept}}, Request.Request}
use Rattle.{desk_theorem_lives.specs.declared.desk_lives.Request.TheVariants.{Change, Look, Load, Sweep}, desk_theorem_runs.specs.desk_store.claim.Commands.Does}
use Rattle.desk_theorem_runs.specs.desk_store.{claim.Clerks.{desk_of, disk_of, is_halted, sectors_of, Keeps, Moves}, declared.clerk.Clerk.Clerk}
use Rattle.sector_device.specs.{claim.Disk.{Disk, Image}, declared.SectorDevice.Ghosts}
use Rattle.desk_store_pages.specs.declared.error.StoreError.TheVariants as store

-- an image of n sectors opens to one of these desks
abbrev pub OpensTo : ℕ → (Desk → Type 0) → Image → Type 0
OpensTo n P c = (e : Desk) × P e × OpensDesk n e c

-- each image that a stop may leave does
abbrev pub Holds : ℕ → (Desk → Type 0) → Disk → Type 0
Holds n P disk = (c : Image) → disk.leaves c → OpensTo n P c

-- what was answered so far, and what may still be, where the device had failed t times before
abbrev pub Going : ℕ → Desk → List Request → List Request → List Answer → Desk → Type 0
Going t d all rest so_far now = (u : ℕ) (told : List Answer) (e : Desk) → Lived t u now rest told e → Lived t u d all (so_far ++ told) e

abbrev pub GoingFailed : ℕ → Desk → List Request → List Request → List Answer → Desk → Desk → Type 0
GoingFailed t d all rest so_far now e = (u : ℕ) (told : List Answer) → t < u → Failed now rest told → Lived t u d all (so_far ++ told) e

module _ {D : Type 0} {g : Ghosts D} where
  -- a clerk in the midst of requests, of which some are left
  abbrev pub Stands : ℕ → Desk → ℕ → List Request → List Request → List Answer → Clerk D g → Type 0
  Stands t d n all rest so_far x =
      ((is_halted x ≡ false) × Keeps x × ((disk_of x).faults ≡ t) × Going t d all rest so_far (desk_of x))
      ⊎ ((is_halted x ≡ true) × Keeps x × (t < (disk_of x).faults) × Holds n (GoingFailed t d all rest so_far (desk_of x)) (disk_of x))

  -- what a load comes to
  abbrev pub Loads : Clerk D g → GeographyModel → Answer → Clerk D g → Type 0
  Loads x area Loaded y = ((desk_of x).geography ≡ None) × (desk_of y ≡ loaded_desk area) × (is_halted y ≡ false)
  Loads x area (Unloaded why) y = (desk_of y ≡ desk_of x) × (is_halted y ≡ false → Keeps x → (disk_of y).is_honest → MayRefuse why (desk_of x))
      × (is_halted y ≡ true → Keeps x → (disk_of y).is_honest → MayFail why (desk_of x))
      × (((desk_of x).geography ≡ None) ⊎ Moves (desk_of x) x y)
  Loads x area _ y = ⊥

  -- what a step of a sweep comes to
  abbrev pub Sweeps : Clerk D g → Answer → Clerk D g → Type 0
  Sweeps x (Swept count) y = is_halted y ≡ false
  Sweeps x (Unswept why) y = is_halted y ≡ false → Keeps x → (disk_of y).is_honest → why ≡ store.Memory
  Sweeps x _ y = ⊥

  -- what a request comes to
  abbrev pub Answers : Clerk D g → Request → Answer → Clerk D g → Type 0
  Answers x (Change c) a y = (r : Reply) × (a ≡ Said r) × Does x c r y
  Answers x (Look q) a y = (r : Reply) × (a ≡ Said r) × AskMay (desk_of x) q r × (y ≡ x)
  Answers x (Load geography) a y = Moves (loaded_desk geography.value) x y × Loads x geography.value a y
  Answers x Sweep a y = Moves (desk_of x) x y × (desk_of y ≡ desk_of x) × Sweeps x a y

  -- a clerk was asked, and `life` says what that makes of a desk
  pub record LivedThrough (life : (t u : ℕ) → Desk → Desk → Type 0) (x y : Clerk D g) : Type 0 where
    pub sectors : sectors_of y ≡ sectors_of x
    pub honest : (disk_of y).is_honest → (disk_of x).is_honest
    pub faults : Keeps x → is_halted x ≡ false → (disk_of y).is_honest → (disk_of x).faults ≤ (disk_of y).faults
    pub lived : Keeps x → is_halted x ≡ false → (disk_of y).is_honest
        → Holds (sectors_of x) (life (disk_of x).faults (disk_of y).faults (desk_of x)) (disk_of y)

  -- what requests come to
  abbrev pub Asks : Clerk D g → List Request → List Answer → Clerk D g → Type 0
  Asks x asked told y = LivedThrough (λ t u d e. Lived t u d asked told e) x y
