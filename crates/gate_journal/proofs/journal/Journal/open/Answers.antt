use Rattle.{std.proofs.Common.rules, gate_journal.proofs.Commit.settled_opens}
use Rattle.gate_journal.proofs.journal.Journal.open.Goals as goal

pub returns-in-Ok : goal.returns-in-Ok
returns-in-Ok g c =
    let kept = λ (honest : (g.D.SectorDevice.disk c.start.new.device).is_honest). settled_opens c.in-Ok.layout.journal_pages c.in-Ok.layout.pages (g.D.SectorDevice.disk c.start.new.device) (c.in-Ok.ensures.opens.model honest).settled in
    search rules
