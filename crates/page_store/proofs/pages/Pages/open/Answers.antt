use Rattle.{std.proofs.Common.{◌≡◌, inr, sym, subst}, gate_journal.specs.{Recovery.{AllStores, ReadsAs}, claim.Contents.{disk_of, content}, declared.error.PageError.PageError}}
use Rattle.{gate_journal.specs.declared.error.PageError.TheVariants.NotAStore, page_store.{specs.{Openings.MetaErr, Transactions.IsUntouched}, proofs.Stops.kept_still}}
use Rattle.{sector_device.{specs.claim.Moments.LeavesOnly, proofs.Moments.leaves_still}, page_store.proofs.Opened.{found_pages, bad_pages, opened_err}}
use Rattle.page_store.proofs.pages.Pages.open.Goals as goal

pub returns-in-Ok-read_meta-clause-any_moment : goal.returns-in-Ok-read_meta-clause-any_moment
returns-in-Ok-read_meta-clause-any_moment g c = λ honest all.
    let read = c.in-Ok-read_meta.ensures in
    leaves_still (ReadsAs (g.D.SectorDevice.disk c.args.device)) _ (disk_of c.in-Ok.journal) (disk_of c.read_meta.new.journal) (c.in-Ok.ensures.any_moment (read.honest honest) all) (read.quiet honest c.in-Ok.ensures.working)

pub returns-in-Ok-read_meta-clause-kept : goal.returns-in-Ok-read_meta-clause-kept
returns-in-Ok-read_meta-clause-kept g c = λ honest.
    let read = c.in-Ok-read_meta.ensures in
    kept_still _ _ _ _ (disk_of c.in-Ok.journal) (disk_of c.read_meta.new.journal) (content c.in-Ok.journal) (content c.read_meta.new.journal) read.shape.journal_pages read.shape.pages (read.same honest)
    (c.in-Ok.ensures.kept (read.honest honest)) (read.quiet honest c.in-Ok.ensures.working)

pub returns-in-Ok-read_meta-clause-sound : goal.returns-in-Ok-read_meta-clause-sound
returns-in-Ok-read_meta-clause-sound g c = λ honest all.
    let read = c.in-Ok-read_meta.ensures in
    rw (read.shape.pages, read.same honest) (found_pages _ _ _ _ (c.in-Ok.ensures.found (read.honest honest)) c.in-Ok.ensures.room all)

pub returns-in-Err-read_meta-clause-any_moment : goal.returns-in-Err-read_meta-clause-any_moment
returns-in-Err-read_meta-clause-any_moment g c =
    let a = g.D.SectorDevice.disk c.args.device in
    let read = c.in-Err-read_meta.ensures in
    subst (λ d. (g.D.SectorDevice.disk d).is_honest → AllStores a → LeavesOnly (ReadsAs a) a (g.D.SectorDevice.disk d)) (sym c.into_device-in-Err-read_meta.ensures)
    (λ honest all. leaves_still (ReadsAs a) a (disk_of c.in-Ok.journal) (disk_of c.read_meta.new.journal) (c.in-Ok.ensures.any_moment (read.honest honest) all) (read.quiet honest c.in-Ok.ensures.working))

pub returns-in-Err-read_meta-clause-err : goal.returns-in-Err-read_meta-clause-err
returns-in-Err-read_meta-clause-err g c =
    let read = c.in-Err-read_meta.ensures in
    (opened_err g.D.SectorDevice c.args.device _ c.in-Ok.journal c.read_meta.new.journal c.in-Err-read_meta.e c.into_device-in-Err-read_meta.ensures c.in-Ok.ensures.working
    (λ honest. c.in-Ok.ensures.passed (read.honest honest)) (λ honest. found_pages _ _ _ _ (c.in-Ok.ensures.found (read.honest honest)) c.in-Ok.ensures.room) read.err).0

pub returns-in-Err-read_meta-clause-untouched : goal.returns-in-Err-read_meta-clause-untouched
returns-in-Err-read_meta-clause-untouched g c =
    let a = g.D.SectorDevice.disk c.args.device in
    let read = c.in-Err-read_meta.ensures in
    subst (λ d. (g.D.SectorDevice.disk d).is_honest → c.in-Err-read_meta.e ≡ NotAStore → IsUntouched a (g.D.SectorDevice.disk d)) (sym c.into_device-in-Err-read_meta.ensures)
    (λ honest is. inr (bad_pages a (disk_of c.in-Ok.journal) (disk_of c.read_meta.new.journal) _ _ _ (c.in-Ok.ensures.found (read.honest honest)) read.shape.journal_pages (read.same honest)
    (c.in-Ok.ensures.kept (read.honest honest)) (read.quiet honest c.in-Ok.ensures.working)
    ((subst (λ (x : PageError). MetaErr c.in-Ok.journal c.read_meta.new.journal x) is read.err honest).0)))

pub returns-in-Err-read_meta-clause-calm : goal.returns-in-Err-read_meta-clause-calm
returns-in-Err-read_meta-clause-calm g c =
    let read = c.in-Err-read_meta.ensures in
    (opened_err g.D.SectorDevice c.args.device _ c.in-Ok.journal c.read_meta.new.journal c.in-Err-read_meta.e c.into_device-in-Err-read_meta.ensures c.in-Ok.ensures.working
    (λ honest. c.in-Ok.ensures.passed (read.honest honest)) (λ honest. found_pages _ _ _ _ (c.in-Ok.ensures.found (read.honest honest)) c.in-Ok.ensures.room) read.err).1
