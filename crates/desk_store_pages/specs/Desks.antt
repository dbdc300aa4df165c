-- What no promise rests on, beside claim/Desks.antt.
use Rattle.{std.specs.Prelude.{Bool, true, ℕ, List, None}, desk_model.specs.claim.Desk.Desk, desk_store_pages.specs.claim.Desks.{HoldsDeskOf, InPagesOf, InTxnOf}}
use Rattle.{page_store.specs.declared.{pages.Pages.Pages, txn.Txn.Txn}, sector_device.specs.{claim.Disk.Image, declared.SectorDevice.Ghosts}}
use Rattle.std.specs.FinMap as map_of

abbrev pub HoldsDesk : ℕ → Image → ℕ → List ℕ → Desk → Type 0
HoldsDesk n P root free d = HoldsDeskOf true n P root free d

-- a desk and the version of the rows that tell it
abbrev pub InTxnAs : Txn → Image → Bool × Desk → Type 0
InTxnAs t P x = InTxnOf x.0 t P x.1

abbrev pub InPagesAs : {D : Type 0} {g : Ghosts D} → Pages D g → Bool × Desk → Type 0
InPagesAs ps x = InPagesOf x.0 ps x.1

-- a desk that nothing was told
abbrev pub new_desk : Desk
new_desk = record { geography = None; plans = map_of.empty }
