use Rattle.{std.proofs.Common.{refl, rules}, desk_store.specs.claim.Clerks.{desk_of, pages_of, Keeps}, desk_store_opening.specs.geo_tables.Loading.number_of}
use Rattle.{desk_store_pages.specs.claim.Desks.InPages, desk_store.proofs.{Done.quiet_device, Loaded.{step_faulted, step_worked}, Moved.quieted}}
use Rattle.desk_store.proofs.Swept.{as_loading, sweep_stopped, swept_holds, swept_stages, swept_told, sweep_rose, sweep_quiet, refused_so, still_stages, halted_stages, passed_device, refused_device}
use Rattle.desk_store.proofs.clerk.Clerk.sweep_step.Goals as goal

pub returns-then-has_failed : goal.returns-then-has_failed
returns-then-has_failed g c =
    let x = c.args.self.now in
    let b = c.sweep_step.new.pages in
    let commits = c.in-Err.ensures.commits in
    let why = commits.err in
    let rose = sweep_rose x b c.in-Err.e c.if-self.false why (c.if-has_failed.ensures.failed refl) in
    let moves = step_faulted x c.if-self.false (InPages (pages_of x)) (λ (keeps : Keeps x). keeps.holds) commits c.in-Err.ensures.any_moment rose in
    sweep_stopped (search (rules, moves)) (λ load last stages. halted_stages x _ load c.if-self.false refl (moves _ _) stages refl) (refused_device x _ c.in-Err.e why) (search rules)

pub returns-in-Ok : goal.returns-in-Ok
returns-in-Ok g c =
    let x = c.args.self.now in
    let b = c.sweep_step.new.pages in
    let count = c.in-Ok.count in
    let running = c.in_range-running in
    let did = c.in-Ok.ensures in
    let swept = as_loading x b running.result count running.ensures.same did.swept in
    let moves = step_worked x c.if-self.false (InPages (pages_of x)) (λ (keeps : Keeps x). keeps.holds) did.commits did.any_moment (swept_holds x b count swept) in
    record {
      maintains = search (rules, moves);
      staged = λ load last stages. swept_stages x _ load c.if-self.false refl (moves _ _) stages count (running.ensures.fits (number_of load) last) last swept;
      few = search rules;
      swept = λ honest m has. swept_told x _ m count refl refl (swept honest) has;
      exact = λ honest m has. (swept honest m (desk_of x) has.holds has.is).exact;
      device = passed_device x _ did.commits.ok.1 did.commits.passed;
      free = λ keeps honest off. let was = keeps.holds c.if-self.false (did.commits.honest honest) in (swept honest was.m (desk_of x) was.holds was.is).free;
    }

pub returns-else-has_failed : goal.returns-else-has_failed
returns-else-has_failed g c =
    let x = c.args.self.now in
    let b = c.sweep_step.new.pages in
    let off = (c.if-has_failed.ensures.passed refl).0 in
    let why = c.in-Err.ensures.commits.err in
    let quiet = sweep_quiet (pages_of x) b c.in-Err.e off why in
    let moves = quieted (Keeps x) (desk_of x) x _ (λ keeps. keeps) c.if-self.false c.if-self.false refl quiet in
    let refused = refused_so x b c.in-Err.e x.halted c.if-self.false c.if-self.false off why in
    sweep_stopped (record { moves = moves; desk = refl; loading = refl; working = tt; err = refused }) (λ load last stages. still_stages x _ load c.if-self.false refl moves stages quiet) (quiet_device x _ quiet) (search rules)
