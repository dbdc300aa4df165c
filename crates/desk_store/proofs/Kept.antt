-- What a clerk's store keeps.
use Rattle.{std.proofs.Common.{rules, ◌≡◌, ◌⊎◌, ◌+◌, ℕ, true, false, inl, inr, ⊎_elim, refl, sym, subst}, desk_model.specs.claim.{Desk.Desk, Outcome.IsAcceptance, Step.step}}
use Rattle.{desk_model.specs.declared.command.Command.{Command, TheVariants.Create}, desk_store.specs.claim.Keeping.{IsLeft, IsOneMore}, sector_device.proofs.Moments.leaves_now}
use Rattle.{desk_store_catalogue.specs.claim.Accepting.{IsAfter, acceptance}, desk_store_pages.specs.claim.Desks.{InPages, OpensDesk}, page_store.specs.declared.pages.Pages.Pages}
use Rattle.{page_store.specs.{claim.Transactions.{disk_in, count_of, journal_of, has_halted, IsKept}, gate_journal.claim.Store.home}, sector_device.specs.claim.Disk.{Disk, Image}}
use Rattle.{sector_device.specs.{claim.Moments.LeavesOnly, declared.SectorDevice.Ghosts}, desk_store_pages.proofs.Committed.pages_sound}

-- each reply to a command that is accepted is one
pub acceptance_is : (c : Command) → IsAcceptance (acceptance c)
acceptance_is (Create name size) = tt
acceptance_is _ = tt

pub accepted_is : (d : Desk) (c : Command) (e : Desk) → IsAfter d c e → IsAcceptance (step d c).0
accepted_is d c e after = subst IsAcceptance (sym after.reply) (acceptance_is c)

module _ {D : Type 0} {g : Ghosts D} where
  -- what a stop leaves of pages that are kept opens to the desk that they hold
  pub kept_opens : (ps : Pages D g) (d : Desk) → has_halted ps ≡ false → (disk_in ps).is_honest → IsKept ps → InPages ps d → (c : Image) → (disk_in ps).leaves c → OpensDesk (home (journal_of ps) + count_of ps) d c
  kept_opens ps d working honest kept holds c leaves = search (rules, pages_sound)

-- a stop in a call that halts leaves the desk before it or the desk after the change, if that is another
pub left_halted : (sectors : ℕ) (d e : Desk) (old new : Disk) → (e ≡ d) ⊎ IsOneMore d e → LeavesOnly (λ c. OpensDesk sectors d c ⊎ OpensDesk sectors e c) old new → (c : Image) → new.leaves c → IsLeft true sectors d c
left_halted sectors d e old new change left c leaves = ⊎_elim (λ was. inl was)
    (λ now. ⊎_elim (λ same. inl (subst (λ (f : Desk). OpensDesk sectors f c) same now)) (λ more. inr (record { halt = refl; next = e; is = more; opens = now })) change)
    (leaves_now (λ x. OpensDesk sectors d x ⊎ OpensDesk sectors e x) old new left c leaves)
