use Rattle.{std.proofs.Common.{◌≤◌, sym, ap, subst, ◌∙◌}, desk_store_pages.specs.{Openings.{LeavesOneOf, OpensOneOf}, declared.error.StoreError.StoreError}}
use Rattle.{inspect_command.specs.Rows.IsUncounted, page_store.specs.claim.Transactions.disk_in, store_command.specs.{Faults.fault_of_store, declared.fault.StoreFault.StoreFault}}
use Rattle.{inspect_command.proofs.{Looked.counts, Unread.{no_less, opened_leaves, page_uncounted, rows_uncounted}}, page_store.proofs.Stops.leaves_quiet}
use Rattle.inspect_command.proofs.rows.rows_of.Goals as goal

pub returns-in-Err-clause-any_moment : goal.returns-in-Err-clause-any_moment
returns-in-Err-clause-any_moment g c = opened_leaves _ _ c.in-Err.ensures.any_moment

pub returns-clause-any_moment : goal.returns-clause-any_moment
returns-clause-any_moment g c =
    let old = g.D.SectorDevice.disk c.args.device in
    let a = c.in-Ok.pages in
    let quiet = c.count_pages-counted.ensures.quiet in
    subst (λ d. LeavesOneOf old (g.D.SectorDevice.disk d)) (sym c.into_device.ensures)
    (λ honest all. leaves_quiet a c.count_pages-counted.new.pages quiet honest (OpensOneOf old) old (opened_leaves old (disk_in a) c.in-Ok.ensures.any_moment (quiet.honest honest) all))

pub returns-clause-counted : goal.returns-clause-counted
returns-clause-counted g c =
    counts g.D.SectorDevice c.args.device c.in-Ok.pages c.count_pages-counted.new.pages c.into_device.result c.count_pages-counted.result c.into_device.ensures c.in-Ok.ensures.found c.count_pages-counted.ensures.quiet c.count_pages-counted.ensures.pages c.count_pages-counted.ensures.counted

pub returns-in-Err-clause-err : goal.returns-in-Err-clause-err
returns-in-Err-clause-err g c =
    subst (λ (f : StoreFault). IsUncounted g.D.SectorDevice c.args.device c.in-Err.left f) (sym (c.store_fault.ensures ∙ ap (λ (e : StoreError). fault_of_store e) c.from.ensures)) (page_uncounted g.D.SectorDevice c.args.device c.in-Err.left c.in-Err.e c.in-Err.ensures.err)

pub returns-clause-err : goal.returns-clause-err
returns-clause-err g c =
    rows_uncounted g.D.SectorDevice c.args.device c.in-Ok.pages c.count_pages-counted.new.pages c.into_device.result c.count_pages-counted.result c.in-Ok.ensures.working c.into_device.ensures c.in-Ok.ensures.found c.in-Ok.ensures.room c.in-Ok.ensures.passed
    c.count_pages-counted.ensures.quiet c.count_pages-counted.ensures.err c.count_pages-counted.ensures.unread

pub returns-clause-faults : goal.returns-clause-faults
returns-clause-faults g c = subst (λ d. (g.D.SectorDevice.disk d).is_honest → (g.D.SectorDevice.disk c.args.device).faults ≤ (g.D.SectorDevice.disk d).faults) (sym c.into_device.ensures)
    (λ honest. no_less c.in-Ok.pages c.count_pages-counted.new.pages (g.D.SectorDevice.disk c.args.device) c.in-Ok.ensures.working c.in-Ok.ensures.passed c.count_pages-counted.ensures.quiet honest)
