-- What is told of pages that aren't opened, and of rows that aren't read.
use Rattle.{std.proofs.Common.{rules, ◌≡◌, ◌≢◌, Bool, true, false, inl, refl, sym}, desk_store_pages.specs.{Errors.{page_refusal, row_refusal, IsCalm}, Openings.IsSpared}}
use Rattle.{desk_store_pages.specs.declared.error.StoreError.{StoreError, TheVariants.{NotAStore, DeviceFault}}, page_btree.specs.gets.declared.error.TreeError.TreeError}
use Rattle.page_store.specs.{Transactions.IsUntouched, claim.Transactions.{disk_in, device_in, has_halted, IsQuiet}, declared.pages.Pages.Pages}
use Rattle.{page_store.specs.gate_journal.declared.error.PageError.PageError, sector_device.specs.{claim.Disk.Disk, declared.SectorDevice.Ghosts}}
use Rattle.page_store.specs.gate_journal.declared.error.PageError.TheVariants as page

-- nothing else is told of pages that weren't opened for a fault
pub page_calm : (old new : Disk) (e : PageError) → (new.is_honest → e ≢ page.DeviceFault → new.faults ≡ old.faults) → new.is_honest → page_refusal e ≢ DeviceFault → new.faults ≡ old.faults
page_calm old new page.DeviceFault calm honest other = absurd (other refl)
page_calm old new _ calm honest other = calm honest (λ is. cc)

-- what is no store stays as it is
pub page_spared : (old new : Disk) (e : PageError) → (new.is_honest → e ≡ page.NotAStore → IsUntouched old new) → new.is_honest → page_refusal e ≡ NotAStore → IsSpared old new
page_spared old new page.NotAStore untouched = λ honest is. inl (untouched honest refl)
page_spared old new _ untouched = λ honest is. cc

module _ {D : Type 0} {g : Ghosts D} where
  -- where no fault is told, none came
  pub calm_told : (b : Pages D g) (e : TreeError) (halted : Bool) → halted ≡ has_halted b → IsCalm b (row_refusal e halted)
  calm_told b e false is = λ other. sym is
  calm_told b e true is = λ other. absurd (other refl)

  -- the device's faults are those of before
  pub calm_refused : (device : D) (a b : Pages D g) (e : StoreError) → ((disk_in a).is_honest → (disk_in a).faults ≡ (g.disk device).faults) → IsQuiet a b → IsCalm b e → (left : D) → left ≡ device_in b
      → (g.disk left).is_honest → e ≢ DeviceFault → (g.disk left).faults ≡ (g.disk device).faults
  calm_refused device a b e passed quiet calm left is = search rules
