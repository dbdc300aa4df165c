-- What a write and a sync leave of the disk.
use Rattle.std.proofs.Common.{rules, ◌≡◌, ◌<◌, ◌^◌, List, ℕ, suc, Bool, [], ◌∷◌, length, get_or, set, replicate, false, true, refl, sym, subst, arith, IsTrue, get_or-set_other}
use Rattle.{std.proofs.lemmas.List.length-set, sector_device.specs.{Disk.Only, Held.{Leaves, image_of}, claim.Disk.{Touches, Nowhere, Image, AgreeOff}}}
use Rattle.sector_file.specs.{Recalled.Recalls, Told.{Told, same_bytes, after_read, after_write, after_torn, after_sync, after_fault, told_disk, IsAsOpened}}
use Rattle.{sector_file.{specs.declared.recent.Recent.Recent, proofs.Steps.first_true}, sector_device.proofs.Held.write_touches}

-- nothing is unsynced
pub all_synced : (n i : ℕ) → get_or (replicate n false) i false ≡ false
all_synced (suc n) (suc i) = all_synced n i
all_synced _ _ = refl

module _ (t : Told) (few : length t.0 < 2 ^ 32) (u : Told) (few' : length u.0 < 2 ^ 32) where
  abbrev From : ℕ → Told → Type 0
  From i v = (l : length v.0 < 2 ^ 32) → IsTrue v.3 → Touches (Only i) (told_disk t few) (told_disk v l)

  pub write_is : (i : ℕ) (bytes : List ℕ) → u ≡ after_write t i bytes → IsTrue u.3 → Touches (Only i) (told_disk t few) (told_disk u few')
  write_is i bytes is honest = subst (λ (v : Told). From i v) (sym is)
      (λ l h. write_touches (IsTrue t.3) (IsTrue t.3) h t.0 (set t.0 i bytes) few l t.1 t.2 i false (length-set t.0 i bytes) (λ j off. get_or-set_other t.0 i j bytes [] off) ((t.0, t.1, false) ∷ t.2) t.0 t.1 refl refl refl) few' honest

  pub torn_is : (i : ℕ) → u ≡ after_torn t i → IsTrue u.3 → Touches (Only i) (told_disk t few) (told_disk u few')
  torn_is i is honest = subst (λ (v : Told). From i v) (sym is)
      (λ l h. write_touches (IsTrue t.3) (IsTrue t.3) h t.0 t.0 few l t.1 t.2 i true refl (λ j off. refl) ((t.0, t.1, true) ∷ t.2) t.0 t.1 refl refl refl) few' honest

  abbrev Still : Told → Type 0
  Still v = (l : length v.0 < 2 ^ 32) → IsTrue v.3 → Touches Nowhere (told_disk t few) (told_disk v l)

  pub sync_is : u ≡ after_sync t → IsTrue u.3 → Touches Nowhere (told_disk t few) (told_disk u few')
  sync_is is honest = subst (λ (v : Told). Still v) (sym is) (λ l h. search (arith, h, all_synced)) few' honest

  pub fault_is : u ≡ after_fault t → IsTrue u.3 → Touches Nowhere (told_disk t few) (told_disk u few')
  fault_is is honest = subst (λ (v : Told). Still v) (sym is) (λ l h. search (arith, h)) few' honest

  pub read_is : (i : ℕ) (bytes : List ℕ) → u ≡ after_read t i bytes → IsTrue u.3 → Touches Nowhere (told_disk t few) (told_disk u few')
  read_is i bytes is honest = subst (λ (v : Told). Still v) (sym is)
      (λ l h. search (arith, first_true t.3 (same_bytes bytes (get_or t.0 i [])) h)) few' honest

pub synced_is : (t u : Told) → u ≡ after_sync t → (c : Image) → Leaves u.0 u.1 c → AgreeOff Nowhere (image_of u.0) c
synced_is t u is = search (rules, all_synced)

-- what a sync leaves, whether it failed or not
module _ (t u : Told) where
  pub sectors_kept : (b : Bool) → (b ≡ true → u ≡ after_sync t) → (b ≡ false → u ≡ after_fault t) → u.0 ≡ t.0
  sectors_kept b synced fault = search (arith, synced, fault)

  was_honest : (b : Bool) → (b ≡ true → u ≡ after_sync t) → (b ≡ false → u ≡ after_fault t) → IsTrue u.3 → IsTrue t.3
  was_honest b synced fault honest = search (arith, synced, fault)

  pub recalled_still : (b : Bool) → (b ≡ true → u ≡ after_sync t) → (b ≡ false → u ≡ after_fault t) → (recent : Recent) → (IsTrue t.3 → Recalls recent t.0) → IsTrue u.3 → Recalls recent u.0
  recalled_still b synced fault recent had honest = search (rules, sectors_kept, was_honest)

  pub as_opened_still : (b : Bool) → (b ≡ true → u ≡ after_sync t) → (b ≡ false → u ≡ after_fault t) → (sector : ℕ → List ℕ) (count : ℕ) → length t.0 ≡ count → IsAsOpened sector count t → IsAsOpened sector count u
  as_opened_still b synced fault sector count long had = search (arith, synced, fault, sectors_kept)
