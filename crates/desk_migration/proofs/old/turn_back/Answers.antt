use Rattle.{std.proofs.Common.{true, false, ◌∙◌, rules}, desk_model.specs.claim.Desk.Desk, desk_store_pages.specs.{Moments.StopsLeave, claim.Desks.{InPages, InTxnOf, OpensEither}}}
use Rattle.{page_store.specs.claim.Transactions.{stored, disk_in}, desk_migration.proofs.Back.{back_quiet, back_reads}}
use Rattle.desk_store_opening.proofs.chunk_table.Committing.{begun_now, commit_leaves, quiet_shape, shape_after}
use Rattle.desk_migration.proofs.old.turn_back.Given.{Over}
use Rattle.desk_migration.proofs.old.turn_back.Goals.{After-commit_txn}
use Rattle.desk_migration.proofs.old.turn_back.Goals as goal

-- what is committed is the desk in the old version
turned : (g : Over) (c : After-commit_txn g) → (disk_in c.commit_txn.new.pages).is_honest → (d : Desk) → InPages c.args.pages.now d → InTxnOf false c.take_new.new.txn (stored c.take_new.new.pages) d
turned g c honest =
    let begin = c.begin-txn.ensures in
    let begun = begun_now c.args.pages.now c.begin-txn.result c.requires.working begin.none begin.pages begin.over begin.root begin.free in
    let took = c.in_ok-take_new.ensures in
    back_reads c.begin-txn.result c.take_new.new.txn c.args.pages.now c.take_new.new.pages begun took.quiet took.put.1 (c.commit_txn.ensures.commits.honest honest)

-- a stop in the commit leaves the desk in either version
leaves : (g : Over) (c : After-commit_txn g) → StopsLeave (InPages c.args.pages.now) OpensEither c.args.pages.now c.commit_txn.new.pages
leaves g c = λ honest working sectors d whole holds.
    let took = c.in_ok-take_new.ensures in
    commit_leaves true false c.take_new.new.txn c.args.pages.now c.take_new.new.pages c.commit_txn.new.pages took.quiet (c.commit_txn.ensures.commits.honest honest) working
    (λ s x y. c.commit_txn.ensures.any_version honest (took.put.0.halted ∙ working) s (true, x) (false, y)) sectors d d whole holds (turned g c honest d holds)

pub returns-in_err-take_new : goal.returns-in_err-take_new
returns-in_err-take_new g c =
    let quiet = c.in_err-take_new.ensures.quiet in
    search (rules, quiet_shape c.args.pages.now c.take_new.new.pages quiet, quiet.honest, back_quiet c.args.pages.now c.take_new.new.pages quiet)

pub returns : goal.returns
returns g c =
    let at = (goal.at.returns g c).After-commit_txn in
    let quiet = c.in_ok-take_new.ensures.quiet in
    let commits = c.commit_txn.ensures.commits in
    record {
      shape = shape_after c.args.pages.now c.take_new.new.pages c.commit_txn.new.pages quiet commits.shape;
      honest = λ honest. quiet.honest (commits.honest honest);
      any_moment = leaves g at;
      old = λ honest d holds. let reads = turned g at honest d holds in record { m = reads.m; holds = c.in_ok-commit_txn.ensures.held honest reads.m reads.holds; is = reads.is };
    }

pub returns-in_err-commit_txn : goal.returns-in_err-commit_txn
returns-in_err-commit_txn g c =
    let quiet = c.in_ok-take_new.ensures.quiet in
    let commits = c.commit_txn.ensures.commits in
    record {
      shape = shape_after c.args.pages.now c.take_new.new.pages c.commit_txn.new.pages quiet commits.shape;
      honest = λ honest. quiet.honest (commits.honest honest);
      any_moment = leaves g (goal.at.returns-in_err-commit_txn g c).After-commit_txn;
      old = search rules;
    }
