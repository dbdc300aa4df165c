use Rattle.{std.proofs.Common.{◌∙◌, ap}, desk_store_pages.specs.declared.error.StoreError.StoreError, store_command.specs.Faults.fault_of_store}
use Rattle.inspect_command.proofs.{Compared.{device_compared, not_opened}, Unread.opened_versions}
use Rattle.inspect_command.proofs.comparing.compare_device.Goals as goal

pub returns-in-Err : goal.returns-in-Err
returns-in-Err g c =
    let opened = c.in-Err.ensures in
    let d = g.D.SectorDevice in
    not_opened d c.one_desk_opens.ensures c.args.said.now c.args.device c.in-Err.left c.in-Err.e c.store_fault.result (c.store_fault.ensures ∙ ap (λ (e : StoreError). fault_of_store e) c.from.ensures) opened.sectors opened.honest
    (opened_versions (d.disk c.args.device) (d.disk c.in-Err.left) opened.any_moment) opened.faults opened.err

pub returns : goal.returns
returns g c =
    let opened = c.in-Ok.ensures in
    let d = g.D.SectorDevice in
    let a = c.in-Ok.pages in
    let compared = c.compare_pages-compared in
    device_compared d c.one_desk_opens.ensures c.args.said.now c.args.device a compared.new.pages opened.room opened.found opened.working opened.passed compared.ensures.quiet compared.result c.into_device.result c.into_device.ensures opened.sectors opened.honest
    (opened_versions (d.disk c.args.device) (d.disk a.journal.device) opened.any_moment) compared.ensures
