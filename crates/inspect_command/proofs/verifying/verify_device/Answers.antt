use Rattle.{std.proofs.Common.rules, inspect_command.proofs.{Devices.{looked_at, not_opened_verifies, verified}, Unread.{opened_leaves, opened_versions}}}
use Rattle.inspect_command.proofs.verifying.verify_device.Goals as goal

pub returns-in-Err : goal.returns-in-Err
returns-in-Err g c =
    let opened = c.in-Err.ensures in
    let verified = not_opened_verifies g.D.SectorDevice c.one_desk_opens.ensures c.args.device c.requires c.in-Err.left c.in-Err.e c.of.result c.of.ensures.fault c.store_fault-fault.ensures c.from.ensures
    c.of.ensures.opens c.of.ensures.whole opened.sectors opened.honest opened.any_moment opened.err opened.untouched opened.faults in
    search rules

pub returns : goal.returns
returns g c =
    let law = c.one_desk_opens.ensures in
    let opened = c.in-Ok.ensures in
    let leaves = opened_leaves (g.D.SectorDevice.disk c.args.device) (g.D.SectorDevice.disk c.in-Ok.pages.journal.device) opened.any_moment in
    let versions = opened_versions (g.D.SectorDevice.disk c.args.device) (g.D.SectorDevice.disk c.in-Ok.pages.journal.device) opened.any_moment in
    search (rules, verified, looked_at)
