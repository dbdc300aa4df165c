use Rattle.{std.proofs.Common.rules, desk_store.specs.claim.Clerks.{desk_of, disk_of, Keeps}, desk_store_pages.specs.claim.Openings.{AllVersions, IsOneOf}}
use Rattle.desk_theorem_loading.proofs.openings.open_store.Goals as goal

pub returns-in-Ok-clause-ok : goal.returns-in-Ok-clause-ok
returns-in-Ok-clause-ok g c =
    let old = g.D.SectorDevice.disk c.args.device in
    let keeps : AllVersions old → Keeps c.in-Ok.clerk = λ all. (c.in-Ok.ensures.opened all).0 in
    let one : AllVersions old → (disk_of c.in-Ok.clerk).is_honest → IsOneOf old (desk_of c.in-Ok.clerk) = λ all. (c.in-Ok.ensures.opened all).1 in
    search (rules, c.in-Ok.ensures)

pub returns-in-Err-clause-err : goal.returns-in-Err-clause-err
returns-in-Err-clause-err g c = search (rules, c.in-Err.ensures)
