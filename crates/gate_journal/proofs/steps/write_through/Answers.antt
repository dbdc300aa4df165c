use Rattle.{std.proofs.Common.{◌∙◌, rules, arith}, gate_journal.proofs.Quiet.commits_so, sector_device.proofs.Moments.{cause_after, on_ok}}
use Rattle.gate_journal.proofs.Commit.{after_stage, after_gate, gate_opened, after_more, home_leaves, close_leaves, closed_pages, closed_settled}
use Rattle.gate_journal.proofs.steps.write_through.Goals as goal

pub returns-in_err-stage : goal.returns-in_err-stage
returns-in_err-stage g c = commits_so (search rules) (λ honest.
    let s1 = c.stage.ensures.model honest in
    let moment = after_stage c.args.layout.journal_pages c.args.layout.pages c.args.writes.now _ _ (c.requires.settled s1.touches.was_honest) s1.touches in
    search rules)

pub returns-in_err-set_gate : goal.returns-in_err-set_gate
returns-in_err-set_gate g c = commits_so (search rules) (λ honest.
    let s2 = c.set_gate.ensures.model honest in
    let s1 = c.in_ok-stage.ensures.model s2.touches.was_honest in
    let moment = after_gate c.args.layout.journal_pages c.args.layout.pages c.args.writes.now c.requires.few c.requires.within _ _ _
    (c.requires.settled s1.touches.was_honest) s1.touches s1.done s2.touches in
    search rules)

pub returns-in_err-bring_home : goal.returns-in_err-bring_home
returns-in_err-bring_home g c = commits_so (search rules) (λ honest.
    let n = c.args.layout.pages in
    let s3 = c.bring_home.ensures.model honest in
    let s2 = c.in_ok-set_gate.ensures.model s3.touches.was_honest in
    let s1 = c.in_ok-stage.ensures.model s2.touches.was_honest in
    let settled = c.requires.settled s1.touches.was_honest in
    let opened = gate_opened _ n c.args.writes.now c.requires.few c.requires.within _ _ _ settled s1.touches s1.done s2.touches s2.done in
    let moment = after_more _ n c.args.writes.now c.requires.few c.requires.within _ _ _ settled s1.touches s1.done s2.touches _ (home_leaves opened _ s3.touches) in
    let passed = s2.cause.passed ∙ s1.cause.passed in
    search rules)

pub returns : goal.returns
returns g c = commits_so (search rules) (λ honest.
    let n = c.args.layout.pages in
    let s4 = c.set_gate-2.ensures.model honest in
    let s3 = c.in_ok-bring_home.ensures.model s4.touches.was_honest in
    let s2 = c.in_ok-set_gate.ensures.model s3.touches.was_honest in
    let s1 = c.in_ok-stage.ensures.model s2.touches.was_honest in
    let settled = c.requires.settled s1.touches.was_honest in
    let opened = gate_opened _ n c.args.writes.now c.requires.few c.requires.within _ _ _ settled s1.touches s1.done s2.touches s2.done in
    let moment = after_more _ n c.args.writes.now c.requires.few c.requires.within _ _ _ settled s1.touches s1.done s2.touches _ (close_leaves opened _ _ s3.touches s3.done s4.touches) in
    let passed = s3.cause.passed ∙ s2.cause.passed ∙ s1.cause.passed in
    search (arith, moment, cause_after, passed, on_ok, closed_settled opened _ _ s3.touches s3.done s4.touches, closed_pages opened _ _ s3.touches s3.done s4.touches, s4.done))
