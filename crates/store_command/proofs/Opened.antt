-- A clerk that opened a device was asked: one life on it.
use Rattle.{std.proofs.Common.ℕ, desk_model.specs.claim.Desk.Desk, desk_theorem.specs.{claim.{Device.OnDevice, OneLife.Asked}, lives.DeskInside.LivedThrough}}
use Rattle.desk_theorem.{specs.{loading.Openings.IsOpened, runs.{Recovery.ImagesAreOne, desk_store.{claim.Clerks.disk_of, declared.clerk.Clerk.Clerk}}}, proofs.Device.clerk_on}
use Rattle.sector_device.specs.declared.SectorDevice.{Ghosts}

pub asked_life : {D : Type 0} {g : Ghosts D} → ImagesAreOne → (device : D) (x y : Clerk D g) (life : (t u : ℕ) → Desk → Desk → Type 0) → IsOpened device x → LivedThrough life x y → OnDevice (Asked life) (g.disk device) (disk_of y)
asked_life law device x y life opened through = clerk_on law device x y life opened.sectors opened.working (λ all. (opened.keeps all, opened.one all)) opened.honest opened.calm through
