-- What a run of `stat` or of `verify` is for the store that it opened.
use Rattle.{std.{specs.Prelude.{codes, Result, Ok, Err}, proofs.Common.{◌≡◌, ℕ, List, [], Bool, true, false, inl, inr, sym, subst}}, command_output.specs.claim.Writing.Written}
use Rattle.{command_output.specs.declared.status.Status.Status, inspect_command.specs.{Stats.{StatsDevice, StatsStore}, Verifying.{EndsVerify, IsRefused, StrayOr, VerifiesStore}}}
use Rattle.inspect_command.specs.{claim.Living.{Hinders, HindersSound, LooksLife, VerifiesLife}, declared.{refusal.Refusal.Refusal, texts.Style.Style}}
use Rattle.{sector_device.specs.declared.SectorDevice.Ghosts, store_command.specs.{claim.Living.IsRefused as IsTold, declared.fault.StoreFault.StoreFault}}
use Rattle.store_command.specs.{declared.fault.StoreFault.TheVariants.{NotAStore, OldVersion, DeviceFault, Memory}, desk_theorem.claim.Device.{HoldsStore, OnDevice}}
use Rattle.store_command.specs.desk_theorem.{claim.{InFile.LivedOn, OneLife.{Asked, ReadHolds, RequestsHold}}, lives.claim.Versions.{Store, Version, version_1, version_2, either}}
use Rattle.store_command.proofs.{Living.{barred, none_opened, printed}, desk_theorem.Device.{and_on}}

-- ---- why a store isn't found sound
pub stray_hinders : (is : Bool) (t u : ℕ) (v : Version) (fault : StoreFault) → fault ≡ Memory → HindersSound is fault t u v
stray_hinders true t u v fault is = tt
stray_hinders false t u v fault is = subst (λ (f : StoreFault). HindersSound false f t u v) (sym is) tt

module _ {D O : Type 0} (g : Ghosts D) (opens : O → List ℕ → Result D StoreFault → O → Type 0) (closes : O → D → O → Type 0) (opened : D → Type 0) (none : O → Type 0) (tells : (before : O) (name : List ℕ) (d : D) (after : O) → opens before name (Ok d) after → opened d) (refuses : (before : O) (name : List ℕ) (f : StoreFault) (after : O) → opens before name (Err f) after → none before → none after) where
  old_only : (device left : D) → IsRefused g device left NotAStore → (g.disk left).is_honest → (s : Store) → HoldsStore s (g.disk device) → HindersSound false NotAStore (g.disk device).faults (g.disk left).faults s.0
  old_only device left why good (version_1, d) held = tt
  old_only device left why good (either, d) held = tt
  old_only device left why good (version_2, d) held = absurd (why good d (held (g.disk device).reads (g.disk device).as_read))

  hinders : (device left : D) (fault : StoreFault) → IsRefused g device left fault → (g.disk left).is_honest → (s : Store) → HoldsStore s (g.disk device) → HindersSound false fault (g.disk device).faults (g.disk left).faults s.0
  hinders device left NotAStore why good s held = old_only device left why good s held
  hinders device left OldVersion why good s held = old_only device left why good s held
  hinders device left DeviceFault why good s held = why good
  hinders device left Memory why good s held = tt
  hinders device left _ why good s held = absurd why

  pub is_hindered : (device left : D) (is : Bool) (fault : StoreFault) (P Q : Type 0) → StrayOr is fault P (IsRefused g device left fault × Q) → (g.disk left).is_honest → (s : Store) → HoldsStore s (g.disk device) → HindersSound is fault (g.disk device).faults (g.disk left).faults s.0
  is_hindered device left true fault P Q why good s held = tt
  is_hindered device left false fault P Q why good s held = hinders device left fault why.0 good s held

  module _ (stores after : O) (fresh : none stores) (name : List ℕ) (end : Status) (old new told_old told_new : Written) where
    on : (life : (t u : ℕ) → Store → Store → Type 0) (device left : D) (middle : O) → opens stores name (Ok device) middle → OnDevice life (g.disk device) (g.disk left) → LivedOn g opened life
    on life device left middle given lived = record { old = device; new = left; was = tells stores name device middle given; lived = lived }

    -- ---- `stat`
    abbrev Looks : Style → Type 0
    Looks style = LooksLife g opened (none after) end style old new told_old told_new

    unlooked : (style : Style) (fault : StoreFault) → IsTold fault end old new told_old told_new → (device left : D) (middle : O) → opens stores name (Ok device) middle → OnDevice (λ t u s e. Asked (RequestsHold [] []) t u s e × Hinders fault t u) (g.disk device) (g.disk left) → Looks style
    unlooked style fault is device left middle given life = LooksLife.unlooked fault is (on (λ t u s e. Asked (RequestsHold [] []) t u s e × Hinders fault t u) device left middle given life)

    unstated : (style : Style) (f : StoreFault) → IsTold f end old new told_old told_new → (device left : D) (middle : O) → opens stores name (Ok device) middle → StatsDevice g device (Err f) left → Looks style
    unstated style f is device left middle given (inl not) = LooksLife.barred (barred g opens closes opened none tells refuses stores after fresh name end old new told_old told_new f is device left middle given not)
    unstated style f is device left middle given (inr has) = unlooked style f is device left middle given has.life

    pub stats_life : (style : Style) → StatsStore g opens closes style stores after name end old new told_old told_new → Looks style
    stats_life style (Ok text, (figures, is, stated), ends) =
        LooksLife.looked figures (printed (codes "stat") end old new told_old told_new is ends) (on _ stated.device stated.left stated.middle stated.opened stated.stats.life)
    stats_life style (Err f, inl same, ends) = LooksLife.not_opened (none_opened g opens closes opened none tells refuses stores after fresh name end old new told_old told_new f ends (inl same))
    stats_life style (Err f, inr (inl refused), ends) = LooksLife.not_opened (none_opened g opens closes opened none tells refuses stores after fresh name end old new told_old told_new f ends (inr refused))
    stats_life style (Err f, inr (inr (inl stated)), ends) = unstated style f ends stated.device stated.left stated.middle stated.opened stated.stats
    stats_life style (Err f, inr (inr (inr un)), ends) =
        let stated = un.1.1 in
        let looked = stated.stats.looked in
        let life = and_on (Asked (RequestsHold [] [])) (λ t u s. Hinders f t u) (g.disk stated.device) (g.disk stated.left) (λ good s held. subst (λ (h : StoreFault). Hinders h (g.disk stated.device).faults (g.disk stated.left).faults) (sym un.0) tt) looked.life in
        unlooked style f ends stated.device stated.left stated.middle stated.opened life

    -- ---- `verify`
    abbrev Reads : Type 0
    Reads = VerifiesLife g opened (none after) end old new told_old told_new

    unsound : (refusal : Refusal) → EndsVerify (Err refusal) end old new told_old told_new → (device left : D) (middle : O) → opens stores name (Ok device) middle → OnDevice ReadHolds (g.disk device) (g.disk left)
        → ((g.disk left).is_honest → (s : Store) → HoldsStore s (g.disk device) → HindersSound refusal.is_stray refusal.fault (g.disk device).faults (g.disk left).faults s.0) → Reads
    unsound refusal is device left middle given life why =
        VerifiesLife.unsound refusal is.0 is.1 (on _ device left middle given (and_on ReadHolds (λ t u s. HindersSound refusal.is_stray refusal.fault t u s.0) (g.disk device) (g.disk left) why life))

    pub verifies_life : VerifiesStore g opens closes stores after name end old new told_old told_new → Reads
    verifies_life (Ok text, (found, is, used), ends) =
        VerifiesLife.sound found (printed (codes "verify") end old new told_old told_new is ends) (on ReadHolds used.device used.left used.middle used.opened used.verifies.0.life)
    verifies_life (Err refusal, inl same, ends) = VerifiesLife.not_opened refusal ends.0 ends.1 (subst none (sym same.1) fresh)
    verifies_life (Err refusal, inr (inl refused), ends) = VerifiesLife.not_opened refusal ends.0 ends.1 (refuses stores name refusal.fault after refused fresh)
    verifies_life (Err refusal, inr (inr (inl used)), ends) =
        let v = used.verifies in
        unsound refusal ends used.device used.left used.middle used.opened v.0.life (λ good s held. is_hindered used.device used.left refusal.is_stray refusal.fault _ _ v.2 good s held)
    verifies_life (Err refusal, inr (inr (inr un)), ends) =
        let used = un.1.1 in
        unsound refusal ends used.device used.left used.middle used.opened used.verifies.0.life (λ good s held. stray_hinders refusal.is_stray (g.disk used.device).faults (g.disk used.left).faults s.0 refusal.fault un.0)
