-- What is seen in pages that a reader opened.
use Rattle.{std.{specs.Prelude.{Option, IfSome}, proofs.Common.{◌≡◌, ◌+◌, ℕ, Bool, false, sym, ap, subst, ◌∙◌, arith}}, page_store.specs.Transactions.OpenErr}
use Rattle.page_store.specs.{claim.Transactions.{stored, disk_in, device_in, count_of, journal_of, has_halted, IsQuiet}, declared.pages.Pages.Pages, gate_journal.claim.Store.home}
use Rattle.{page_store.specs.gate_journal.{Recovery.{Found, HasRoom}, declared.error.PageError.PageError}, sector_device.specs.claim.Disk.{Disk, Image}}
use Rattle.{sector_device.specs.declared.SectorDevice.Ghosts, store_verification.specs.{Looking.{IsLookOf, IsUnopened, LooksAs, LooksBy}, declared.look.Look.Look}}
use Rattle.{store_verification.specs.declared.look.Look.TheVariants.{Sound, Unsound, Failed}, desk_store_pages.proofs.Found.found_after}

-- pages that were read keep the size of their device
same_sectors : {D : Type 0} (g : Ghosts D) (a b : Pages D g) → IsQuiet a b → (disk_in b).sectors ≡ (disk_in a).sectors
same_sectors g a b quiet = sym b.journal.room.whole ∙ ap (λ J. home J + count_of b) quiet.journal ∙ ap (λ n. home (journal_of a) + n) quiet.count ∙ a.journal.room.whole

module _ {X D : Type 0} (g : Ghosts D) (finds : ℕ → Image → X → Type 0) where
  pub not_opened : (reader left : D) (e : PageError) (look : Look X) → (g.disk left).sectors ≡ (g.disk reader).sectors → IsUnopened e look → OpenErr g reader left e → LooksBy finds (g.disk reader) (g.disk left) look
  not_opened reader left e (Sound x) size is why = absurd is
  not_opened reader left e Unsound size is why = record { sectors = size; looked = tt }
  not_opened reader left e Failed size is why = record { sectors = size; looked = subst (λ (f : PageError). OpenErr g reader left f) is why }

  module _ (old : Disk) (a b : Pages D g) (size : (disk_in a).sectors ≡ old.sectors) (room : HasRoom old.sectors (journal_of a) (count_of a)) (found : (disk_in a).is_honest → Found (journal_of a) (count_of a) old (disk_in a)) (working : has_halted a ≡ false)
      (passed : (disk_in a).is_honest → (disk_in a).faults ≡ old.faults) (quiet : IsQuiet a b) where
    seen_in : (given : Option X) (halted : Bool) (look : Look X) → halted ≡ has_halted b → ((disk_in b).is_honest → IfSome given (finds (count_of a) (stored a))) → IsLookOf given halted look → LooksAs finds old (disk_in b) look
    seen_in given halted (Sound x) halts seen is = record {
      J = journal_of b;
      n = count_of b;
      room = subst (λ (J : ℕ). HasRoom old.sectors J (count_of b)) (sym quiet.journal) (subst (λ (n : ℕ). HasRoom old.sectors (journal_of a) n) (sym quiet.count) room);
      found = λ honest. found_after old a b found quiet honest;
      seen = λ honest. subst (λ (P : Image). finds (count_of b) P x) (sym (quiet.same honest)) (subst (λ (n : ℕ). finds n (stored a) x) (sym quiet.count) (subst (λ (o : Option X). IfSome o (finds (count_of a) (stored a))) is.1 (seen honest)));
    }
    seen_in given halted Unsound halts seen is = tt
    seen_in given halted Failed halts seen is = λ honest. omega (arith, quiet.rose working (sym halts ∙ is) honest, passed (quiet.honest honest))

    -- and given back
    pub looked : (left : D) → left ≡ device_in b → (given : Option X) (halted : Bool) (look : Look X) → halted ≡ has_halted b → ((disk_in b).is_honest → IfSome given (finds (count_of a) (stored a)))
        → IsLookOf given halted look → LooksBy finds old (g.disk left) look
    looked left is given halted look halts seen of =
        subst (λ (d : D). LooksBy finds old (g.disk d) look) (sym is) (record { sectors = same_sectors g a b quiet ∙ size; looked = seen_in given halted look halts seen of })
