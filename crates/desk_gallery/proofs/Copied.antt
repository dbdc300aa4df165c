-- A copy of what the store's device reads opens to the desk that is shown.
use Rattle.std.{specs.Prelude.Ok, proofs.{Common.{◌≡◌, ◌∙◌, ℕ, suc, Bool, false, inl, inr, sym, subst, arith}, lemmas.Bool.{false≢true, Decides.leb_tells}}}
use Rattle.{desk_gallery.specs.{Copies.{CanCopy, IsCopied}, Fronts.{Kept, ShowsAll}, claim.After.after}, desk_model.specs.claim.Desk.Desk}
use Rattle.{desk_theorem_runs.specs.{desk_store.claim.Keeping.IsLeft, desk_store_pages.claim.Desks.OpensDesk}, sector_copies.specs.Copies.{Below, CopiesAll, IsCopy}}
use Rattle.sector_device.specs.{claim.Disk.{Disk, Image}, declared.SectorDevice.Ghosts}

-- without a halt what a crash leaves opens to the desk itself
left_alone : (halted : Bool) (n : ℕ) (d : Desk) (c : Image) → halted ≡ false → IsLeft halted n d c → OpensDesk n d c
left_alone halted n d c working (inl opens) = opens
left_alone halted n d c working (inr more) = absurd (false≢true (sym working ∙ more.halt))

-- each sector of a copy
by_sector : (served made copy : Disk) → CanCopy served made → IsCopy served made copy → (i : ℕ) → copy.reads i ≡ served.reads i
by_sector served made copy fits is i = elim (leb_tells (suc i) served.sectors) [
  | inl below ↦ is.same i (omega (arith, below.1))
  | inr above ↦
      let off : Below served.sectors i → ⊥ = λ less. omega (arith, less, above.1) in
      is.others.same i off ∙ fits.others.same i off
]

module _ {D S T : Type 0} (g : Ghosts D) (gs : Ghosts S) (gt : Ghosts T) (first : Desk) (sound : Type 0) (begins : Image → S → Type 0) (places : T → Type 0) (f : Kept D) where
  pub is_copied : (served read : S) (made copy : T) → f.halted ≡ false → ShowsAll g first sound f → CanCopy (gs.disk served) (gt.disk made)
      → CopiesAll (gs.disk served) (gs.disk read) (gt.disk made) (gt.disk copy) (Ok tt) → begins (g.disk f.device).reads served → places copy → IsCopied g gs gt first sound begins places f
  is_copied served read made copy working shown fits all begun placed = record {
    working = working;
    served = served;
    read = read;
    copy = copy;
    begun = begun;
    placed = placed;
    synced = all.synced;
    opens = λ s honest source target same c leaves.
        let is = all.copied source target in
        let each : (i : ℕ) → c i ≡ (g.disk f.device).reads i = λ i. (all.synced target c leaves).same i (λ none. none) ∙ by_sector (gs.disk served) (gt.disk made) (gt.disk copy) fits is i ∙ same i in
        let opens : OpensDesk f.sectors (after first f.shown) (g.disk f.device).reads = left_alone f.halted f.sectors (after first f.shown) (g.disk f.device).reads working (shown.kept s honest (g.disk f.device).reads (g.disk f.device).as_read) in
        subst (λ (image : Image). OpensDesk f.sectors (after first f.shown) image) (λ k i. (sym (each i)) k) opens;
  }
