-- A device that is made a store.
use Rattle.std.specs.Prelude.{◌≡◌, ◌⊎◌, ◌≤◌, ◌+◌, ℕ}
use Rattle.{desk_model.specs.claim.Geography.GeographyModel, desk_store.specs.declared.clerk.Clerk.Clerk, desk_store_pages.specs.Formats.{OpensNew, HasJournal, FormatErr}}
use Rattle.{desk_store_pages.specs.declared.error.StoreError.StoreError, desk_theorem_loading.specs.{Loads.{IsLoaded, LoadRefused}, Openings.{IsOpened, IsUnopened}}}
use Rattle.{page_store.specs.gate_journal.claim.Store.home, sector_device.specs.declared.SectorDevice.Ghosts}

module _ {D : Type 0} (g : Ghosts D) where
  -- the device was made a store with J journal pages, whose desk has no geography and no plan
  pub record IsFormatted (J : ℕ) (device new : D) : Type 0 where
    pub sectors : (g.disk new).sectors ≡ (g.disk device).sectors
    pub honest : (g.disk new).is_honest → (g.disk device).is_honest
    pub opens : (g.disk new).is_honest → OpensNew (g.disk new)
    pub journal : (g.disk new).is_honest → HasJournal J (g.disk new)
    pub room : home J + 64 ≤ (g.disk device).sectors

  -- it was opened, and the geography was loaded
  pub record IsStarted (J : ℕ) (device : D) (area : GeographyModel) (y : Clerk D g) : Type 0 where
    pub new : D
    pub formatted : IsFormatted J device new
    pub x : Clerk D g
    pub opened : IsOpened new x
    pub loaded : IsLoaded x area y

  -- ---- why it isn't
  pub record IsUnformatted (J : ℕ) (device : D) (e : StoreError) : Type 0 where
    pub left : D
    pub why : FormatErr g J device left e

  pub record IsUnread (J : ℕ) (device : D) (e : StoreError) : Type 0 where
    pub new : D
    pub formatted : IsFormatted J device new
    pub left : D
    pub why : IsUnopened g new e left

  pub record IsUnloaded (J : ℕ) (device : D) (area : GeographyModel) (e : StoreError) : Type 0 where
    pub new : D
    pub formatted : IsFormatted J device new
    pub x : Clerk D g
    pub opened : IsOpened new x
    pub y : Clerk D g
    pub why : LoadRefused x area e y

  abbrev pub StartRefused : ℕ → D → GeographyModel → StoreError → Type 0
  StartRefused J device area e = IsUnformatted J device e ⊎ (IsUnread J device e ⊎ IsUnloaded J device area e)
