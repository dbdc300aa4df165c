-- What `stat` and `verify` make of the store that they open: one life of it, in which it stays as it is. What is printed is of that store.
use Rattle.std.specs.Prelude.{◌≡◌, ◌<◌, ℕ, Bool, true, false, List, [], codes, length, map, sum_by, Option, Some, None}
use Rattle.{command_output.specs.{claim.Writing.Written, declared.status.Status.Status}, desk_model.specs.claim.{Desk.Desk, Geography.GeographyModel, Step.plan_row}}
use Rattle.{desk_model.specs.declared.reply.PlanRow.PlanRow, inspect_command.specs.claim.{SoundTexts.{TellsRefusal, verified_text}, Texts.figures_text}}
use Rattle.inspect_command.specs.declared.{figures.{Figures.Figures, Held.Held}, refusal.Refusal.Refusal, texts.Style.Style, verifying.Verified.Verified}
use Rattle.{sector_device.specs.declared.SectorDevice.Ghosts, store_command.specs.{claim.Living.{Bars, IsPrinted, IsRefused, OpensNone}, declared.fault.StoreFault.StoreFault}}
use Rattle.store_command.specs.{declared.fault.StoreFault.TheVariants.{NotAStore, OldVersion, DeviceFault, Memory}, desk_theorem.claim.InFile.LivedOn}
use Rattle.store_command.specs.desk_theorem.{claim.OneLife.{Asked, ReadHolds, RequestsHold}, lives.claim.Versions.{MayBeOld, Version}}
use Rattle.std.specs.FinMap as map_of

abbrev pub blocks_in : Option GeographyModel → ℕ
blocks_in None = 0
blocks_in (Some g) = length g.blocks

abbrev pub pairs_in : Option GeographyModel → ℕ
pairs_in None = 0
pairs_in (Some g) = length g.pairs

-- the list of plans that is shown, and how many revisions they have together
abbrev pub plan_lines : Desk → List PlanRow
plan_lines d = map plan_row (map_of.entries d.plans)

abbrev pub revisions_in : List PlanRow → ℕ
revisions_in lines = sum_by (λ (line : PlanRow). line.revisions) lines

-- what is told is of this desk
pub record IsOfDesk (d : Desk) (held : Held) : Type 0 where
  pub blocks : held.blocks ≡ blocks_in d.geography
  pub pairs : held.pairs ≡ pairs_in d.geography
  pub plans : held.plans ≡ length (plan_lines d)
  pub revisions : held.revisions ≡ revisions_in (plan_lines d)

-- For this a store is not told of, where its device had failed t times before, and u times after it: memory was refused, or it failed.
abbrev pub Hinders : StoreFault → (t u : ℕ) → Type 0
Hinders Memory t u = Unit {0}
Hinders DeviceFault t u = t < u
Hinders _ t u = ⊥

-- for this it isn't found sound: a page or a row of it is wrong; or so, or it is of the old version
abbrev pub HindersSound : (is_stray : Bool) → StoreFault → (t u : ℕ) → Version → Type 0
HindersSound true fault t u v = Unit {0}
HindersSound false NotAStore t u v = MayBeOld v
HindersSound false OldVersion t u v = MayBeOld v
HindersSound false fault t u v = Hinders fault t u

-- `opened` says how the device of a store was opened, and `none` that none was
module _ {D : Type 0} (g : Ghosts D) (opened : D → Type 0) (none : Type 0) (end : Status) where
  -- `stat`: nothing was asked of the store, and the figures are of its desk
  pub data LooksLife (style : Style) (old new told_old told_new : Written) : Type 0 where
    looked : (figures : Figures) → IsPrinted (codes "stat") (figures_text style figures) end old new told_old told_new
        → LivedOn g opened (λ t u s e. Asked (RequestsHold [] []) t u s e × IsOfDesk s.1 figures.held) → LooksLife style old new told_old told_new
    unlooked : (fault : StoreFault) → IsRefused fault end old new told_old told_new
        → LivedOn g opened (λ t u s e. Asked (RequestsHold [] []) t u s e × Hinders fault t u) → LooksLife style old new told_old told_new
    barred : Bars g opened none end old new told_old told_new → LooksLife style old new told_old told_new
    not_opened : OpensNone g opened none end old new told_old told_new → LooksLife style old new told_old told_new

  -- `verify`: the store was read
  pub data VerifiesLife (old new told_old told_new : Written) : Type 0 where
    sound : (found : Verified) → IsPrinted (codes "verify") (verified_text found) end old new told_old told_new → LivedOn g opened ReadHolds
        → VerifiesLife old new told_old told_new
    unsound : (refusal : Refusal) → new ≡ old → TellsRefusal refusal end told_old told_new
        → LivedOn g opened (λ t u s e. ReadHolds t u s e × HindersSound refusal.is_stray refusal.fault t u s.0) → VerifiesLife old new told_old told_new
    not_opened : (refusal : Refusal) → new ≡ old → TellsRefusal refusal end told_old told_new → none → VerifiesLife old new told_old told_new
