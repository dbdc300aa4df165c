use Rattle.{std.proofs.Common.rules, gate_journal.{specs.{Outcomes.LeavesAllOrNone, Store.Staging, claim.Writes.writes_of}, proofs.Commit.after_stage}}
use Rattle.sector_device.proofs.Moments.{touches_none}
use Rattle.gate_journal.proofs.journal.Journal.commit.Goals as goal

pub returns-then-len-self : goal.returns-then-len-self
returns-then-len-self g c =
    let j = c.args.self.now in
    let ws = writes_of c.args.writes.now in
    let kept : LeavesAllOrNone ws j j = λ honest working. after_stage j.layout.journal_pages j.layout.pages ws _ _ (j.settled working honest)
    (touches_none (Staging j.layout.journal_pages) _ honest) in
    search rules
