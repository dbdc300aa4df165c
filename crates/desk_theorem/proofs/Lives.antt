-- Life after life, by what each was found to hold.
use Rattle.{std.proofs.Common.{[], ◌∷◌, refl, sym, subst}, desk_theorem.specs.claim.{Device.{HoldsStore, IsStoreAs}, Lives.{LeavesWhatItReads, PlanDesk, LivesOnDevice}}}
use Rattle.{desk_theorem_lives.specs.claim.Versions.Store, http_desk.specs.seats.claim.Streams.Traffic, sector_device.specs.claim.Disk.{Disk, Image}}
use Rattle.sector_device.specs.declared.SectorDevice.{Ghosts}

-- a synced device that reads as a store holds it
holds_read : (s : Store) (disk : Disk) → LeavesWhatItReads disk → IsStoreAs disk.sectors s disk.reads → HoldsStore s disk
holds_read s disk synced reads c leaves = let agree = synced c leaves in subst (λ (i : Image). IsStoreAs disk.sectors s i) (λ i k. (sym (agree.same k (λ none. none))) i) reads

module _ {A P Q : Type 0} (streams : A → Traffic P Q) where
  pub on_device : {D : Type 0} (g : Ghosts D) → LivesOnDevice streams g
  on_device g came old new synced once now left stops s reads =
      let leads = once.lived now s (holds_read s (g.disk old) synced reads) in
      (leads.no_fewer, leads.left left stops)

  pub plan_desk : PlanDesk streams
  plan_desk sectors held left [] are s opens = (s, refl, subst (λ (c : Image). IsStoreAs sectors s c) (sym are) opens)
  plan_desk sectors held left (life ∷ lives) are s opens =
      let once = (are.1 s (subst (λ (c : Image). IsStoreAs sectors s c) (sym are.0) opens)).1 in
      let rest = plan_desk sectors life.left left lives are.2 once.0 once.2 in
      (rest.0, (once.0, once.1, rest.1), rest.2)
