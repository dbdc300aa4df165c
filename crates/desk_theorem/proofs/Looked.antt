-- A store that was opened, and looked at once more by calls that keep what was there: one life, in which nothing was asked.
use Rattle.{std.proofs.Common.{◌≡◌, ◌≤◌, ℕ, true, [], refl, sym, subst, subst₂, ◌∙◌, arith}, desk_model.specs.claim.Desk.Desk, desk_store_pages.specs.claim.Desks.OpensDesk}
use Rattle.{desk_store_pages.specs.Openings.{LeavesOneOf, OpensOneOf}, desk_theorem.specs.claim.{Device.{LeadsTo, OnDevice, OpensAs}, OneLife.{Asked, RequestsHold}}}
use Rattle.desk_theorem.proofs.OneLife.{requests_hold}
use Rattle.{sector_device.{specs.claim.Disk.{Disk, Image}, proofs.Moments.leaves_now}, desk_theorem_lives.{specs.{claim.Versions.{Store, Version, version_2}, desk_theorem_runs.Recovery.ImagesAreOne}, proofs.desk_theorem_runs.One.few_sectors}}

abbrev Nothing : (t u : ℕ) → Store → Store → Type 0
Nothing = Asked (RequestsHold [] [])

module _ (law : ImagesAreOne) (old mid new : Disk) (once : OnDevice Nothing old mid) where
  -- what is left after the opening
  opened : (s : Store) → LeadsTo Nothing old.sectors old.faults s mid → (c : Image) → mid.leaves c → OpensDesk mid.sectors s.1 c
  opened s leads c stops =
      let is = leads.left c stops in
      subst (λ (n : ℕ). OpensDesk n s.1 c) (sym once.sectors) (subst₂ (λ (v : Version) (d : Desk). OpensAs v old.sectors d c) is.1.1 is.1.2.told_so is.2)

  still : (s : Store) → LeadsTo Nothing old.sectors old.faults s mid → (c : Image) → OpensOneOf mid c → OpensDesk old.sectors s.1 c
  still s leads c is =
      let same : is.desk ≡ s.1 = law true true mid.sectors is.desk s.1 is.one.was (few_sectors mid) is.one.opens (opened s leads is.one.was is.one.left) in
      subst₂ (λ (n : ℕ) (d : Desk). OpensDesk n d c) once.sectors same is.opens

  pub looked_on : new.sectors ≡ mid.sectors → (new.is_honest → mid.is_honest) → (new.is_honest → mid.faults ≤ new.faults) → LeavesOneOf mid new → OnDevice Nothing old new
  looked_on same was more leaves = record {
    sectors = same ∙ once.sectors;
    honest = λ now. once.honest (was now);
    lived = λ now s held.
        (let leads = once.lived (was now) s held in
        let first = leads.left mid.reads mid.as_read in
        record {
          no_fewer = let one = leads.no_fewer in let two = more now in omega arith;
          left = λ c stops.
              (let is = leaves_now (OpensOneOf mid) mid new (leaves now (λ i left. (s.1, opened s leads i left))) c stops in
              ((version_2, s.1), (first.1.0, refl, requests_hold [] [] old.faults new.faults s.1 s.1 refl), still s leads c is));
        });
  }
