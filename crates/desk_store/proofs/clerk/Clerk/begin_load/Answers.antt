use Rattle.{std.proofs.Common.{refl, rules}, desk_store.specs.claim.Clerks.{desk_of, pages_of, Keeps}, desk_store_pages.specs.claim.Desks.InPages}
use Rattle.desk_store.proofs.{Loaded.{begin_told, begin_refused, refused_failed, refused_quiet, load_desk, step_faulted, step_worked, step_stages}, Moved.{quieted, unmoved}}
use Rattle.page_store.proofs.Stops.{quiet_none}
use Rattle.desk_store.proofs.clerk.Clerk.begin_load.Goals as goal

pub returns-then-has_failed-clause-moves : goal.returns-then-has_failed-clause-moves
returns-then-has_failed-clause-moves g c =
    let x = c.args.self.now in
    let b = c.begin_load.new.pages in
    let commits = c.in-Err.ensures.step.commits in
    let failed = refused_failed x b c.in-Err.e c.if-self.false (begin_told c.args.geography.value (pages_of x) b c.in-Err.e commits.err) (c.if-has_failed.ensures.failed refl) in
    step_faulted x c.if-self.false (InPages (pages_of x)) (λ (keeps : Keeps x). keeps.holds) commits c.in-Err.ensures.any_moment failed.rose _ _

pub returns-in-Ok-clause-moves : goal.returns-in-Ok-clause-moves
returns-in-Ok-clause-moves g c =
    let x = c.args.self.now in
    let did = c.in-Ok.ensures in
    step_worked x c.if-self.false (InPages (pages_of x)) (λ (keeps : Keeps x). keeps.holds) did.step.commits did.any_moment (λ honest d holds. load_desk (did.begun honest d holds).0) _ _

pub returns-in-Ok-clause-staged : goal.returns-in-Ok-clause-staged
returns-in-Ok-clause-staged g c =
    let did = c.in-Ok.ensures in
    step_stages c.args.self.now c.if-self.false (InPages (pages_of c.args.self.now)) (λ (keeps : Keeps c.args.self.now). keeps.holds) c.in-Ok.load did.step.commits.honest (λ honest d holds. (did.begun honest d holds).0) _ _ (returns-in-Ok-clause-moves g c)

pub returns-else-has_failed-clause-moves : goal.returns-else-has_failed-clause-moves
returns-else-has_failed-clause-moves g c =
    let x = c.args.self.now in
    let told = begin_told c.args.geography.value (pages_of x) c.begin_load.new.pages c.in-Err.e c.in-Err.ensures.step.commits.err in
    quieted (Keeps x) (desk_of x) x _ (λ keeps. keeps) c.if-self.false c.if-self.false refl (refused_quiet (pages_of x) c.begin_load.new.pages c.in-Err.e (c.if-has_failed.ensures.passed refl).0 told)

pub returns-then-has_failed-clause-err : goal.returns-then-has_failed-clause-err
returns-then-has_failed-clause-err g c =
    let x = c.args.self.now in
    let b = c.begin_load.new.pages in
    let told = begin_told c.args.geography.value (pages_of x) b c.in-Err.e c.in-Err.ensures.step.commits.err in
    (refl, λ off. (refused_failed x b c.in-Err.e c.if-self.false told (c.if-has_failed.ensures.failed refl)).halted)

pub returns-else-has_failed-clause-err : goal.returns-else-has_failed-clause-err
returns-else-has_failed-clause-err g c = search (rules, begin_refused)

pub returns-then-is_some-clause-moves : goal.returns-then-is_some-clause-moves
returns-then-is_some-clause-moves g c = unmoved (Keeps c.args.self.now) (desk_of c.args.self.now) c.args.self.now (λ keeps. keeps)

pub returns-then-is_some-clause-loads : goal.returns-then-is_some-clause-loads
returns-then-is_some-clause-loads g c = search (rules, quiet_none (pages_of c.args.self.now))

pub returns-else-has_failed-clause-loads : goal.returns-else-has_failed-clause-loads
returns-else-has_failed-clause-loads g c = search (rules, refused_quiet, begin_told)
