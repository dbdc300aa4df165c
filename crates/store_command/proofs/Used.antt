-- A device that was opened, used by the clerk, and given back.
use Rattle.std.{specs.declared.{alloc.Global.Global, sync.Arc.Arc}, proofs.Common.{◌≡◌, ℕ, false, [], ◌∷◌, inl, inr, ⊎_elim, refl, sym, subst, ◌∙◌}}
use Rattle.{desk_model.specs.claim.{Desk.Desk, Geography.GeographyModel}, desk_store_pages.specs.{claim.Desks.OpensDesk, declared.error.StoreError.StoreError}}
use Rattle.desk_theorem.specs.{claim.OneLife.RequestsHold, lives.{DeskInside.Answers, declared.desk_lives.Answer.{Answer, TheVariants.{Loaded, Unloaded}}}}
use Rattle.desk_theorem.specs.{lives.declared.desk_lives.Request.TheVariants.Load, loading.{Loads.{IsLoaded, LoadRefused}, Openings.IsOpened}, runs.Recovery.ImagesAreOne}
use Rattle.desk_theorem.specs.runs.desk_store.{Keeping.sealed_desk, claim.Clerks.{desk_of, disk_of, pages_of, sectors_of, Keeps, Moves}, declared.clerk.Clerk.Clerk}
use Rattle.{page_store.specs.claim.Transactions.device_in, sector_device.specs.{claim.{Disk.{Disk, Image}, Moments.LeavesOnly}, declared.SectorDevice.Ghosts}}
use Rattle.store_command.specs.{Filling.{HasDesk, HasLoaded, HasKept, LoadedOnce, OpensOr, WhereItReads}, Reading.{LeavesDesk, ReadsDesk, ShowsWhatIsRead}}
use Rattle.{desk_theorem.proofs.Asked.one_asked, sector_device.proofs.Moments.{leaves_more, leaves_wider}, store_command.proofs.Opened.asked_life}
use Rattle.desk_theorem.proofs.loading.Moves.{OneOf}
use Rattle.desk_theorem.proofs.runs.One.{left_working}
use Rattle.desk_theorem.proofs.lives.DeskLiving.{may_fail, may_refuse, refused_for}

module _ {D : Type 0} {g : Ghosts D} (device : D) (x y : Clerk D g) (opened : IsOpened device x) (shows : ShowsWhatIsRead device x) where
  abbrev old : Disk
  old = g.disk device

  -- what the clerk shows is what the device reads as
  shown : (d : Desk) → ReadsDesk old d → (disk_of x).is_honest → (c : Image) → OpensDesk (sectors_of x) (desk_of x) c → OpensDesk old.sectors d c
  shown d reads honest c opens = subst (λ (e : Desk). OpensDesk old.sectors e c) ((shows d reads).desk honest) (subst (λ (n : ℕ). OpensDesk n (desk_of x) c) opened.sectors opens)

  -- at any moment since the opening began
  pub used_left : (next : Desk) → Moves next x y → WhereItReads old (disk_of y) (λ d. LeavesOnly (OpensOr old.sectors d next) old (disk_of y))
  used_left next moves honest d reads =
      let was = moves.honest honest in
      leaves_more (OpensOr old.sectors d next) old (disk_of x) (disk_of y)
      (leaves_wider (OpensDesk old.sectors d) (OpensOr old.sectors d next) old (disk_of x) (λ c is. inl is) ((shows d reads).any_moment was))
      (leaves_wider (OneOf x next) (OpensOr old.sectors d next) (disk_of x) (disk_of y) (λ c. ⊎_elim (λ here. inl (shown d reads was c here)) (λ now. inr (subst (λ (n : ℕ). OpensDesk n next c) opened.sectors now))) (moves.any_moment (shows d reads).keeps opened.working honest))

  -- where the desk stays
  pub kept_left : Moves (desk_of x) x y → WhereItReads old (disk_of y) (λ d. LeavesDesk old (disk_of y) d)
  kept_left moves honest d reads =
      let was = moves.honest honest in
      leaves_more (OpensDesk old.sectors d) old (disk_of x) (disk_of y) ((shows d reads).any_moment was)
      (leaves_wider (OneOf x (desk_of x)) (OpensDesk old.sectors d) (disk_of x) (disk_of y) (λ c. ⊎_elim (λ here. shown d reads was c here) (λ now. shown d reads was c now)) (moves.any_moment (shows d reads).keeps opened.working honest))

  -- from then on, where no fault came
  left_now : (next : Desk) → Moves next x y → Keeps x → y.halted ≡ false → (disk_of y).is_honest → HasDesk old (disk_of y) (desk_of y)
  left_now next moves keeps works honest c leaves =
      subst (λ (n : ℕ). OpensDesk n (desk_of y) c) (moves.sectors ∙ opened.sectors) (left_working y.halted (sectors_of y) (desk_of y) c works ((moves.keeps keeps).left honest c leaves))

  pub left_next : (next : Desk) → Moves next x y → desk_of y ≡ next → y.halted ≡ false → WhereItReads old (disk_of y) (λ d. HasDesk old (disk_of y) next)
  left_next next moves desk works honest d reads c leaves = subst (λ (e : Desk). OpensDesk old.sectors e c) desk (left_now next moves (shows d reads).keeps works honest c leaves)

  pub left_same : (next : Desk) → Moves next x y → desk_of y ≡ desk_of x → y.halted ≡ false → WhereItReads old (disk_of y) (λ d. HasDesk old (disk_of y) d)
  left_same next moves desk works honest d reads c leaves =
      subst (λ (e : Desk). OpensDesk old.sectors e c) (desk ∙ (shows d reads).desk (moves.honest honest)) (left_now next moves (shows d reads).keeps works honest c leaves)

  -- a load
  module _ (law : ImagesAreOne) (arc : Arc GeographyModel Global) (moves : Moves (sealed_desk arc.value) x y) (left : D) (back : left ≡ device_in (pages_of y)) where
    one_load : (a : Answer) → Answers x (Load arc) a y → LoadedOnce old (disk_of y) arc.value a
    one_load a did = (arc, refl, asked_life law device x y (RequestsHold (Load arc ∷ []) (a ∷ [])) opened (one_asked x (Load arc) a y did))

    loaded_life : IsLoaded x arc.value y → LoadedOnce old (disk_of y) arc.value Loaded
    loaded_life loaded = one_load Loaded (moves, (loaded.whole.begun.unsealed, loaded.desk, loaded.works))

    kept_life : (e : StoreError) → LoadRefused x arc.value e y → desk_of y ≡ desk_of x → LoadedOnce old (disk_of y) arc.value (Unloaded e)
    kept_life e why desk = one_load (Unloaded e) (
      moves,
      (desk, (λ works keeps honest. may_refuse x arc.value e y why works keeps honest), (λ on keeps honest. may_fail x arc.value e y why on keeps honest), refused_for x arc.value e y why),
    )

    pub has_loaded : IsLoaded x arc.value y → HasLoaded g device arc.value left
    has_loaded loaded = subst (λ (d : D). HasLoaded g device arc.value d) (sym back) (let life = loaded_life loaded in search (used_left, left_next, life))

    pub has_kept : (e : StoreError) → LoadRefused x arc.value e y → desk_of y ≡ desk_of x → HasKept g device arc.value e left
    has_kept e why desk = subst (λ (d : D). HasKept g device arc.value e d) (sym back) (let life = kept_life e why desk in search (used_left, left_same, life))
