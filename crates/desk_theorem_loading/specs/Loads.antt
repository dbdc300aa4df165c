-- A whole load.
use Rattle.std.specs.Prelude.{◌≡◌, ◌⊎◌, ◌-◌, ◌/◌, ℕ, min, max, false, None}
use Rattle.{desk_model.specs.claim.Geography.GeographyModel, desk_store.specs.{Keeping.sealed_desk, Loads.{Stages, IsLast, BeginRefused, BatchRefused, SealRefused}}}
use Rattle.desk_store.specs.{claim.Clerks.{desk_of, is_halted, pages_of, room_of, Keeps, Moves, MovesIf}, declared.clerk.Clerk.Clerk, geo_tables.declared.load.Load.Load}
use Rattle.{desk_store.specs.geo_tables.Loading.{number_of, geography_model_of, done_of}, desk_store_pages.specs.declared.error.StoreError.StoreError}
use Rattle.{desk_store_pages.specs.declared.error.StoreError.TheVariants.{AlreadySealed, Full, Memory, NotAStore, Halted}, desk_store_rows.specs.claim.GeographyRows.geography_rows}
use Rattle.{page_store.specs.claim.Transactions.IsQuiet, sector_device.specs.declared.SectorDevice.Ghosts}

-- how many rows a batch may have: 13 journal pages for each and for the mark of the load, but one at least and 512 at most
abbrev pub batch_rows : ℕ → ℕ
batch_rows journal_pages = max 1 (min 512 (journal_pages / 13 - 1))

module _ {D : Type 0} {g : Ghosts D} where
  -- a load of the geography was begun, as the last one, where none was sealed
  pub record HasBegun (x : Clerk D g) (area : GeographyModel) (y : Clerk D g) (load : Load) : Type 0 where
    pub unsealed : (desk_of x).geography ≡ None
    pub worked : is_halted x ≡ false
    pub moves : Moves (desk_of x) x y
    pub desk : desk_of y ≡ desk_of x
    pub staged : Keeps x → Stages y load
    pub last : IsLast y load
    pub the_geography : geography_model_of load ≡ area
    pub none : done_of load ≡ 0
    pub works : is_halted y ≡ false

  -- batches of a load were staged: it is the same one, with more rows, and nothing else was begun
  pub record HasStaged (x : Clerk D g) (load : Load) (y : Clerk D g) (more : Load) : Type 0 where
    pub moves : MovesIf (Stages x load) (desk_of x) x y
    pub desk : desk_of y ≡ desk_of x
    pub loading : y.loading ≡ x.loading
    pub number : number_of more ≡ number_of load
    pub geography : more.geography ≡ load.geography
    pub staged : Stages x load → Stages y more
    pub works : is_halted x ≡ false → is_halted y ≡ false

  -- one was begun, and all its rows were staged
  pub record HasWhole (x : Clerk D g) (area : GeographyModel) (y : Clerk D g) (all : Load) : Type 0 where
    pub w : Clerk D g
    pub load : Load
    pub begun : HasBegun x area w load
    pub staged : HasStaged w load y all
    pub done : done_of all ≡ geography_rows area

  -- and that one was sealed
  pub record IsLoaded (x : Clerk D g) (area : GeographyModel) (y : Clerk D g) : Type 0 where
    pub w : Clerk D g
    pub load : Load
    pub whole : HasWhole x area w load
    pub moves : MovesIf (Stages w load) (sealed_desk area) w y
    pub desk : desk_of y ≡ sealed_desk area
    pub last : IsLast y load
    pub works : is_halted y ≡ false

  -- ---- refusals
  -- none was begun
  pub record BeginStopped (x : Clerk D g) (area : GeographyModel) (e : StoreError) (y : Clerk D g) : Type 0 where
    pub moves : Moves (desk_of x) x y
    pub desk : desk_of y ≡ desk_of x
    pub loading : y.loading ≡ x.loading
    pub quiet : is_halted y ≡ false → IsQuiet (pages_of x) (pages_of y)
    pub why : BeginRefused area x e (is_halted y) (pages_of y)

  -- a batch was refused after those that were staged: of as many rows as were left, but no more than it may have
  pub record BatchStopped (x : Clerk D g) (load : Load) (e : StoreError) (y : Clerk D g) : Type 0 where
    pub w : Clerk D g
    pub so_far : Load
    pub before : HasStaged x load w so_far
    pub rows : ℕ
    pub rows_are : rows ≡ min (geography_rows (geography_model_of load) - done_of so_far) (batch_rows (room_of x))
    pub moves : MovesIf (Stages w so_far) (desk_of w) w y
    pub desk : desk_of y ≡ desk_of w
    pub loading : y.loading ≡ w.loading
    pub quiet : is_halted y ≡ false → IsQuiet (pages_of w) (pages_of y)
    pub why : BatchRefused so_far rows w e (is_halted y) (pages_of y)

  -- so that its rows are not all staged: the load is the last one, and no geography is sealed
  abbrev pub StageRefused : Clerk D g → Load → StoreError → Clerk D g → Type 0
  StageRefused x load Full y = BatchStopped x load Full y
  StageRefused x load Memory y = BatchStopped x load Memory y
  StageRefused x load NotAStore y = BatchStopped x load NotAStore y
  StageRefused x load Halted y = BatchStopped x load Halted y
  StageRefused x load _ y = ⊥

  -- one was begun, and not all its rows were staged
  pub record StageStopped (x : Clerk D g) (area : GeographyModel) (e : StoreError) (y : Clerk D g) : Type 0 where
    pub w : Clerk D g
    pub load : Load
    pub begun : HasBegun x area w load
    pub why : StageRefused w load e y

  -- it was not sealed
  pub record SealStopped (x : Clerk D g) (area : GeographyModel) (e : StoreError) (y : Clerk D g) : Type 0 where
    pub w : Clerk D g
    pub load : Load
    pub whole : HasWhole x area w load
    pub moves : MovesIf (Stages w load) (sealed_desk area) w y
    pub desk : desk_of y ≡ desk_of w
    pub loading : y.loading ≡ w.loading
    pub quiet : is_halted y ≡ false → IsQuiet (pages_of w) (pages_of y)
    pub why : SealRefused load w e (is_halted y) (pages_of y)

  abbrev pub Stopped : Clerk D g → GeographyModel → StoreError → Clerk D g → Type 0
  Stopped x area e y = BeginStopped x area e y ⊎ (StageStopped x area e y ⊎ SealStopped x area e y)

  -- why a geography is not loaded: it is told that one is sealed before anything is begun, and a load that is the last one never ends
  abbrev pub LoadRefused : Clerk D g → GeographyModel → StoreError → Clerk D g → Type 0
  LoadRefused x area AlreadySealed y = BeginStopped x area AlreadySealed y
  LoadRefused x area Full y = Stopped x area Full y
  LoadRefused x area Memory y = Stopped x area Memory y
  LoadRefused x area NotAStore y = Stopped x area NotAStore y
  LoadRefused x area Halted y = Stopped x area Halted y
  LoadRefused x area _ y = ⊥
