-- Why pages aren't found sound, by cases.
use Rattle.{std.{specs.Prelude.{◌≡◌, Result, IsErrAnd}, proofs.Common.{Err, sym, ◌∙◌}}, gate_journal.specs.declared.error.PageError.PageError, page_store.specs.Reading.ReadsOnly}
use Rattle.page_btree_checks.specs.{Errors.{pages_error, PagesErr, CheckErr}, declared.error.PagesError.{PagesError, TheVariants.{Unsound, DeviceFault, Halted, Memory}}}
use Rattle.{page_store.specs.{claim.Transactions.{disk_in, IsQuiet, Passed, ReadErr}, declared.pages.Pages.Pages}, sector_device.specs.declared.SectorDevice.Ghosts}
use Rattle.{page_btree_gets.proofs.Outcomes.{refused_by, reads_as}, page_store.proofs.Stops.{failed_more, quiet_more}}
use Rattle.gate_journal.specs.declared.error.PageError.TheVariants as page

module _ {D : Type 0} {g : Ghosts D} where
  -- a page that isn't read
  unread_err : (sound : Type 0) (a b : Pages D g) (e : PageError) → ReadErr a b e → PagesErr sound a b (pages_error e)
  unread_err sound a b page.DeviceFault why = why
  unread_err sound a b page.Halted why = why
  unread_err sound a b _ why = absurd why

  pub unread : {T U sound : Type 0} {a b : Pages D g} {e : PageError} {r : Result U PagesError} → ReadsOnly {A = T} (ReadErr a b) a b (Err e) → IsErrAnd r (λ x. x ≡ pages_error e) → ReadsOnly (PagesErr sound a b) a b r
  unread {sound} {a} {b} {e} told is = refused_by (pages_error e) is told.quiet (unread_err sound a b e told.err)

  -- after calls that passed
  pub unsound_more : {sound whole : Type 0} {a b c : Pages D g} → Passed a b → IsQuiet b c → (e : PagesError) → PagesErr sound b c e → ((disk_in c).is_honest → whole → sound) → PagesErr whole a c e
  unsound_more passed quiet (Unsound fault) why gives = λ honest is. why honest (gives honest is)
  unsound_more {a} {b} {c} passed quiet DeviceFault why gives = failed_more a b c passed quiet why
  unsound_more passed quiet Halted why gives = sym passed.halted ∙ why
  unsound_more passed quiet Memory why gives = why

  pub unsound_after : {T U sound whole : Type 0} {a b c : Pages D g} {e : PagesError} {r : Result U PagesError} → Passed a b → ReadsOnly {A = T} (PagesErr sound b c) b c (Err e) → IsErrAnd r (λ x. x ≡ e) → ((disk_in c).is_honest → whole → sound) → ReadsOnly (PagesErr whole a c) a c r
  unsound_after {sound} {whole} {a} {b} {c} {e} passed told is gives =
      refused_by e is (quiet_more a b c passed.quiet told.quiet) (unsound_more {sound = sound} {whole = whole} passed told.quiet e told.err gives)

  -- at the top
  checked_err : (sound whole : Type 0) (a b : Pages D g) → ((disk_in b).is_honest → whole → sound) → (e : PagesError) → PagesErr sound a b e → CheckErr whole a b e
  checked_err sound whole a b gives (Unsound fault) why = λ honest is. why honest (gives honest is)
  checked_err sound whole a b gives Memory why = tt
  checked_err sound whole a b gives _ why = why

  pub checked : {T sound whole : Type 0} {a b : Pages D g} {r : Result T PagesError} → ReadsOnly (PagesErr sound a b) a b r → ((disk_in b).is_honest → whole → sound) → ReadsOnly (CheckErr whole a b) a b r
  checked {sound} {whole} {a} {b} told gives = reads_as told (checked_err sound whole a b gives)
