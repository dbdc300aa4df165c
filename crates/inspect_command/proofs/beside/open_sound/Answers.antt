use Rattle.{std.{specs.Prelude.Ok, proofs.Common.{◌∙◌, rules}}, inspect_command.proofs.Devices.{holds_at, looked_at, not_opened_verifies, verified}}
use Rattle.{inspect_command.proofs.Unread.{opened_leaves, opened_versions}, page_store.proofs.Stops.quiet_none}
use Rattle.inspect_command.proofs.beside.open_sound.Goals as goal

pub returns-in-Err : goal.returns-in-Err
returns-in-Err g c =
    let opened = c.in-Err.ensures in
    let verified = not_opened_verifies g.D.SectorDevice c.one_desk_opens.ensures c.args.device c.requires.synced c.in-Err.left c.in-Err.e c.of.result c.of.ensures.fault c.store_fault-fault.ensures c.from.ensures
    c.of.ensures.opens c.of.ensures.whole opened.sectors opened.honest opened.any_moment opened.err opened.untouched opened.faults in
    search rules

pub returns : goal.returns
returns g c =
    let d = g.D.SectorDevice in
    let old = d.disk c.args.device in
    let a = c.in-Ok.pages in
    let opened = c.in-Ok.ensures in
    let leaves = opened_leaves old (d.disk a.journal.device) opened.any_moment in
    let versions = opened_versions old (d.disk a.journal.device) opened.any_moment in
    let look = looked_at d c.one_desk_opens.ensures c.args.device c.requires.synced a.journal.device opened.sectors opened.honest leaves versions opened.faults in
    let sound = holds_at old c.requires.synced a opened.room opened.found c.args.rows (λ honest. c.requires.sound (opened.honest honest)) c.page_count.result (c.page_count.ensures ∙ c.begin-txn.ensures.pages) in
    let verified = verified d c.one_desk_opens.ensures c.args.device c.requires.synced a a opened.room opened.found opened.working opened.passed opened.kept (quiet_none a) (Ok (record { pages = c.page_count.result; rows = c.args.rows })) c.into_device.result c.into_device.ensures look leaves versions sound tt in
    search rules
