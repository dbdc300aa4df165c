-- A store that may be of the old version, as those see it who ask it or lead it on.
use Rattle.std.specs.Prelude.{◌≡◌, ◌<◌, ⊤, ℕ}
use Rattle.{desk_model.specs.claim.Desk.Desk, desk_store_pages.specs.declared.error.StoreError.StoreError, desk_theorem_lives.specs.declared.leading.Led.Led}
use Rattle.desk_store_pages.specs.declared.error.StoreError.TheVariants as store
use Rattle.desk_theorem_lives.specs.declared.leading.Led.TheVariants as led

-- the old version, the new one, or, where the device failed as a store was led on, one of the two
pub data Version : Type 0 where
  version_1 : Version
  version_2 : Version
  either : Version

abbrev pub MayBeOld : Version → Type 0
MayBeOld version_1 = ⊤
MayBeOld version_2 = ⊥
MayBeOld either = ⊤

abbrev pub MayBeNew : Version → Type 0
MayBeNew version_1 = ⊥
MayBeNew version_2 = ⊤
MayBeNew either = ⊤

-- a store's version and its desk
abbrev pub Store : Type 0
Store = Version × Desk

-- A store may not be opened for this, where the device had failed t times before, and u times after it: it is as it was. Nothing but a
-- fault is told of a device that failed in that life.
abbrev pub MayBar : (t u : ℕ) → Version → StoreError → Type 0
MayBar t u v store.DeviceFault = t < u
MayBar t u v store.Memory = u ≡ t
MayBar t u v store.OldVersion = MayBeOld v × (u ≡ t)
MayBar t u v _ = ⊥

-- It is led on from a version to one: it may be of the old one at the start, and is of the new one where all was done, and of the old one
-- where the steps ran out, or there was no room or no memory. Only where the device fails may it be of either.
abbrev pub Leads : (t u : ℕ) → Version → Led → Version → Type 0
Leads t u v led.Whole w = MayBeOld v × (w ≡ version_2)
Leads t u v led.InPart w = MayBeOld v × (w ≡ version_1)
Leads t u v (led.Stopped store.Full) w = MayBeOld v × (w ≡ version_1)
Leads t u v (led.Stopped store.Memory) w = MayBeOld v × (w ≡ version_1)
Leads t u v (led.Stopped store.DeviceFault) w = MayBeOld v × (w ≡ either) × (t < u)
Leads t u v (led.Stopped _) w = ⊥
Leads t u v (led.Unopened store.DeviceFault) w = (w ≡ v) × (t < u)
Leads t u v (led.Unopened store.Memory) w = (w ≡ v) × (u ≡ t)
Leads t u v (led.Unopened store.AlreadyNew) w = MayBeNew v × (w ≡ version_2) × (u ≡ t)
Leads t u v (led.Unopened _) w = ⊥
