-- A device that was formatted, and then opened.
use Rattle.{std.proofs.Common.{◌≡◌, ◌<◌, ◌≤◌, ◌^◌, ◌∙◌, ℕ, true, sym, arith}, desk_store.specs.{claim.Clerks.{disk_of, pages_of, room_of, Keeps}, declared.clerk.Clerk.Clerk}}
use Rattle.{desk_store_pages.specs.{Desks.new_desk, Formats.{OpensNew, HasJournal}}, desk_theorem_loading.specs.Openings.IsOpened, page_store.specs.claim.Transactions.count_of}
use Rattle.sector_device.specs.declared.SectorDevice.{Ghosts}
use Rattle.page_store.proofs.gate_journal.Headers.{same_journal}

module _ {D : Type 0} {g : Ghosts D} where
  pub new_keeps : (device : D) (x : Clerk D g) → ((g.disk device).is_honest → OpensNew (g.disk device)) → IsOpened device x → Keeps x
  new_keeps device x new opened =
      let keeps : (disk_of x).is_honest → Keeps x = λ h. opened.keeps (λ c leaves. ((true, new_desk), new (opened.honest h) c leaves)) in
      record { holds = λ works h. (keeps h).holds works h; left = λ h. (keeps h).left h }

  -- the journal that is found is the one that was made
  pub opened_journal : (J : ℕ) (device : D) (x : Clerk D g) → J ≤ 65536 → room_of x < 2 ^ 32 → ((g.disk device).is_honest → HasJournal J (g.disk device)) → IsOpened device x → (disk_of x).is_honest → room_of x ≡ J
  opened_journal J device x most fits made opened honest =
      let pages = (opened.found honest).pages in
      let there = made (opened.honest honest) pages.was pages.left in
      same_journal (room_of x) (count_of (pages_of x)) J there.0 fits (omega (arith, most)) (sym pages.header ∙ there.2.header)
