-- A device whose readers looked at it before it was verified.
use Rattle.{std.{specs.Prelude.{Result, Ok, Err, None}, proofs.Common.{rules, ◌≡◌, ◌<◌, ℕ, false, inl, inr, refl, sym, subst, ◌∙◌, arith}}, desk_model.specs.claim.Desk.Desk}
use Rattle.{desk_store_pages.specs.{Openings.{HasPages, IsSpared, StillStands}, claim.Desks.OpensDesk}, inspect_command.specs.declared.refusal.Refusal.Refusal}
use Rattle.inspect_command.specs.{Verifying.{IsFoundWrong, IsLookedAt, IsRefused, IsSparedFor, VerifiesDevice}, declared.verifying.Verified.Verified}
use Rattle.{page_store.specs.{claim.Transactions.{journal_of, count_of}, gate_journal.Recovery.Found}, sector_device.specs.{Disk.IsSynced, claim.Moments.LeavesOnly}}
use Rattle.{sector_device.specs.{claim.Disk.{Disk, Image, Nowhere, Touches}, declared.SectorDevice.Ghosts}, store_command.specs.Reading.{LeavesDesk, ReadsDesk}}
use Rattle.store_command.specs.{declared.fault.StoreFault.{StoreFault, TheVariants.{NotAStore, OldVersion, DeviceFault, Memory}}, desk_theorem.claim.OneLife.ReadHolds}
use Rattle.{store_command.specs.desk_theorem.{claim.Device.{HoldsStore, IsStoreAs, OnDevice}, lives.claim.Versions.Store}, inspect_command.proofs.Devices.{map_stray, other_told}}
use Rattle.{sector_device.proofs.Moments.{leaves_from, leaves_more, touches_more}, store_verification.proofs.Seen.agreed}
use Rattle.store_command.proofs.desk_theorem.OneLife.{read_holds}

-- the first device, and the one that was left by its readers
module _ (a b : Disk) (synced : IsSynced a) (sectors : b.sectors ≡ a.sectors) (moves : Touches Nowhere a b) where
  reads_on : (d : Desk) → ReadsDesk a d → ReadsDesk b d
  reads_on d reads = subst (λ (n : ℕ). OpensDesk n d b.reads) (sym sectors) (subst (λ (c : Image). OpensDesk a.sectors d c) (agreed a.reads b.reads moves.reads) reads)

  found_before : (J n : ℕ) (c : Disk) → Found J n b c → Found J n a c
  found_before J n c found = search rules

  stands_before : (c : Disk) → StillStands b c → StillStands a c
  stands_before c stands = record { J = stands.J; n = stands.n; found = found_before stands.J stands.n c stands.found; stands = stands.stands }

  pages_before : (c : Disk) → HasPages b c → HasPages a c
  pages_before c has = (has.0, has.1, found_before has.0 has.1 c has.2)

  spared_before : (c : Disk) → IsSpared b c → IsSpared a c
  spared_before c (inl (inl moved)) = inl (inl (touches_more Nowhere Nowhere a b c (λ i none. none) moves moved))
  spared_before c (inl (inr bad)) = inl (inr (record { J = bad.J; n = bad.n; found = found_before bad.J bad.n c bad.found; stands = bad.stands; unsound = bad.unsound }))
  spared_before c (inr stands) = inr (stands_before c stands)

  leaves_desk : (d : Desk) → ReadsDesk a d → LeavesDesk a b d
  leaves_desk d reads = leaves_from (OpensDesk a.sectors d) Nowhere a b synced moves (λ c agree. subst (λ (x : Image). OpensDesk a.sectors d x) (agreed a.reads c agree) reads)

  desk_before : (c : Disk) (d : Desk) → ReadsDesk a d → LeavesDesk b c d → LeavesDesk a c d
  desk_before c d reads leaves = leaves_more (OpensDesk a.sectors d) a b c (leaves_desk d reads) (subst (λ (n : ℕ). LeavesOnly (OpensDesk n d) b c) sectors leaves)

-- a store that one held, the other holds
held_on : (a b : Disk) → IsSynced a → IsSynced b → b.sectors ≡ a.sectors → Touches Nowhere a b → (s : Store) → HoldsStore s a → HoldsStore s b
held_on a b synced still sectors moves s held c left =
    let was : IsStoreAs a.sectors s a.reads = held a.reads a.as_read in
    let same : a.reads ≡ c = agreed a.reads b.reads moves.reads ∙ agreed b.reads c (still c left) in
    subst (λ (n : ℕ). IsStoreAs n s c) (sym sectors) (subst (λ (i : Image). IsStoreAs a.sectors s i) same was)

-- it was read in between
read_since : (a b c : Disk) → IsSynced a → IsSynced b → b.sectors ≡ a.sectors → (c.is_honest → Touches Nowhere a b) → OnDevice ReadHolds b c → OnDevice ReadHolds a c
read_since a b c synced still sectors moves once = record {
  sectors = once.sectors ∙ sectors;
  honest = λ now. (moves now).was_honest;
  lived = λ now s held.
      (let first = moves now in
      let leads = once.lived now s (held_on a b synced still sectors first s held) in
      record {
        no_fewer = let more = leads.no_fewer in let fewer = first.faults in omega (arith, more, fewer);
        left = λ i stops.
            (let is = leads.left i stops in
            (is.0, read_holds a.faults c.faults s is.0 is.1.told_so, subst (λ (n : ℕ). IsStoreAs n is.0 i) sectors is.2));
      });
}

-- only its readers looked at it
read_first : (a b : Disk) → IsSynced a → IsSynced b → b.sectors ≡ a.sectors → (b.is_honest → Touches Nowhere a b) → OnDevice ReadHolds a b
read_first a b synced still sectors moves = record {
  sectors = sectors;
  honest = λ now. (moves now).was_honest;
  lived = λ now s held. record {
    no_fewer = (moves now).faults;
    left = λ i stops. (s, read_holds a.faults b.faults s s refl, subst (λ (n : ℕ). IsStoreAs n s i) sectors (held_on a b synced still sectors (moves now) s held i stops));
  };
}

module _ {D : Type 0} (g : Ghosts D) (device mid : D) (synced : IsSynced (g.disk device)) (still : IsSynced (g.disk mid)) (sectors : (g.disk mid).sectors ≡ (g.disk device).sectors)
    (moves : (g.disk mid).is_honest → Touches Nowhere (g.disk device) (g.disk mid)) where
  abbrev a : Disk
  a = g.disk device

  abbrev b : Disk
  b = g.disk mid

  -- ---- the device failed
  looked_by : IsLookedAt g device mid
  looked_by = record {
    sectors = sectors;
    honest = λ good. (moves good).was_honest;
    any_moment = λ good d reads. leaves_desk a b synced sectors (moves good) d reads;
    life = read_first a b synced still sectors moves;
  }

  pub failed_first : (refusal : Refusal) → refusal.fault ≡ DeviceFault → refusal.is_stray ≡ false → refusal.page ≡ None → (b.is_honest → a.faults < b.faults) → VerifiesDevice g device (Err refusal) mid
  failed_first refusal told opens whole why =
      (looked_by, subst (λ (f : StoreFault). IsSparedFor g device mid f) (sym told) tt, other_told refusal DeviceFault (IsFoundWrong g device mid refusal.page refusal.row) (IsRefused g device mid) told opens whole why)

  -- ---- what is left behind it
  module _ (left : D) (look : IsLookedAt g mid left) where
    by : (g.disk left).is_honest → Touches Nowhere a b
    by good = moves (look.honest good)

    looked_before : IsLookedAt g device left
    looked_before = record {
      sectors = look.sectors ∙ sectors;
      honest = λ good. (by good).was_honest;
      any_moment = λ good d reads. desk_before a b synced sectors (by good) (g.disk left) d reads (look.any_moment good d (reads_on a b synced sectors (by good) d reads));
      life = read_since a b (g.disk left) synced still sectors by look.life;
    }

    refused_before : (fault : StoreFault) → IsRefused g mid left fault → IsRefused g device left fault
    refused_before NotAStore why = λ good d reads. why good d (reads_on a b synced sectors (by good) d reads)
    refused_before OldVersion why = λ good d reads. why good d (reads_on a b synced sectors (by good) d reads)
    refused_before DeviceFault why = λ good. let rose = why good in let fewer = (by good).faults in omega (arith, rose, fewer)
    refused_before _ why = why

    spared_for : (fault : StoreFault) → IsSparedFor g mid left fault → IsSparedFor g device left fault
    spared_for DeviceFault is = tt
    spared_for Memory is = λ good. pages_before a b synced sectors (by good) (g.disk left) (is good)
    spared_for _ is = λ good. spared_before a b synced sectors (by good) (g.disk left) (is good)

    found_at : (J n : ℕ) → ((g.disk left).is_honest → Found J n b (g.disk left)) → (g.disk left).is_honest → Found J n a (g.disk left)
    found_at J n found good = found_before a b synced sectors (by good) J n (g.disk left) (found good)

  pub verified_since : (result : Result Verified Refusal) (left : D) → VerifiesDevice g mid result left → VerifiesDevice g device result left
  verified_since (Ok found) left is = (
    looked_before left is.0,
    λ good. stands_before a b synced sectors (by left is.0 good) (g.disk left) (is.1 good),
    record { ps = is.2.ps; back = is.2.back; found = found_at left is.0 (journal_of is.2.ps) (count_of is.2.ps) is.2.found; sound = is.2.sound },
  )
  verified_since (Err refusal) left is = (
    looked_before left is.0,
    spared_for left is.0 refusal.fault is.1,
    map_stray refusal.is_stray refusal.fault (IsFoundWrong g mid left refusal.page refusal.row) (IsRefused g mid left refusal.fault × (refusal.page ≡ None))
        (IsFoundWrong g device left refusal.page refusal.row) (IsRefused g device left refusal.fault × (refusal.page ≡ None))
        (λ part. record { ps = part.ps; back = part.back; found = found_at left is.0 (journal_of part.ps) (count_of part.ps) part.found; wrong = part.wrong })
        (λ other. (refused_before left is.0 refusal.fault other.0, other.1)) is.2,
  )
