use Rattle.{std.proofs.Common.{true, false, sym, ap, subst, ◌∙◌, rules}, desk_migration.specs.Openings.JudgeErr, desk_store_pages.specs.declared.error.StoreError.StoreError}
use Rattle.{desk_store_rows.specs.claim.Tidy.version_row, desk_migration.proofs.Opened.{not_read, of_version, read_from, version_not_read}}
use Rattle.{desk_store_pages.proofs.Refusals.calm_told, page_store.proofs.Stops.{quiet_more, passed_more}}
use Rattle.desk_store_opening.proofs.chunk_table.Committing.{IsBegun, begun_now}
use Rattle.desk_migration.proofs.opening.judge.Given.{Over}
use Rattle.desk_migration.proofs.opening.judge.Goals.{After-begin-txn}
use Rattle.desk_migration.proofs.opening.judge.Goals as goal

begun : (g : Over) (c : After-begin-txn g) → IsBegun c.args.pages.now c.begin-txn.result
begun g c = begun_now c.args.pages.now c.begin-txn.result c.requires c.begin-txn.ensures.none c.begin-txn.ensures.pages c.begin-txn.ensures.over c.begin-txn.ensures.root c.begin-txn.ensures.free

pub returns-in-Err-clause-reading : goal.returns-in-Err-clause-reading
returns-in-Err-clause-reading g c = search (begun, c.row_error.ensures, not_read, c.in-Err.e, c.is_halted.ensures, c.read_desk.ensures.reading.quiet, c.in-Err.ensures.reading.err)

pub returns-in-Ok-true-clause-reading : goal.returns-in-Ok-true-clause-reading
returns-in-Ok-true-clause-reading g c =
    let a = c.args.pages.now in
    let b = c.read_desk.new.pages in
    let quiet = c.is_new.ensures.quiet in
    let started = begun g (goal.at.returns-in-Ok-true-clause-reading g c).After-begin-txn in
    let version = of_version true c.begin-txn.result a b c.is_new.new.pages started c.in-Ok.ensures.reading.passed quiet (λ honest m holds. c.in-Ok-true.ensures.there honest m holds ∙ ap version_row c.in-Ok-true.field-0-test) in
    search (rules, quiet_more a b c.is_new.new.pages c.read_desk.ensures.reading.quiet quiet, version, quiet.honest, read_from c.begin-txn.result a b c.in-Ok.field-0 started c.read_desk.ensures.reading.quiet c.in-Ok.ensures.found)

pub returns-in-Ok-false-clause-reading : goal.returns-in-Ok-false-clause-reading
returns-in-Ok-false-clause-reading g c =
    search (quiet_more, c.read_desk.ensures.reading.quiet, c.is_new.ensures.quiet, passed_more, c.in-Ok.ensures.reading.passed, c.in-Ok-false.ensures.passed)

pub returns-in-Ok-false-clause-version : goal.returns-in-Ok-false-clause-version
returns-in-Ok-false-clause-version g c =
    of_version false c.begin-txn.result c.args.pages.now c.read_desk.new.pages c.is_new.new.pages (begun g (goal.at.returns-in-Ok-false-clause-version g c).After-begin-txn) c.in-Ok.ensures.reading.passed c.is_new.ensures.quiet
    (λ honest m holds. c.in-Ok-false.ensures.there honest m holds ∙ ap version_row c.in-Ok-false.field-0-test)

pub returns-in-Ok-false-clause-read : goal.returns-in-Ok-false-clause-read
returns-in-Ok-false-clause-read g c = λ honest m holds.
    read_from c.begin-txn.result c.args.pages.now c.read_desk.new.pages c.in-Ok.field-0 (begun g (goal.at.returns-in-Ok-false-clause-read g c).After-begin-txn) c.read_desk.ensures.reading.quiet c.in-Ok.ensures.found (c.is_new.ensures.quiet.honest honest) m holds

pub returns-clause-reading : goal.returns-clause-reading
returns-clause-reading g c =
    let ps = c.args.pages.now in
    let started = begun g (goal.at.returns-clause-reading g c).After-begin-txn in
    search (
      rules,
      quiet_more c.args.pages.now c.read_desk.new.pages c.is_new.new.pages c.read_desk.ensures.reading.quiet c.is_new.ensures.quiet,
      subst (λ (e : StoreError). JudgeErr ps c.is_new.new.pages e) (sym c.row_error-in-Err-is_new.ensures) (version_not_read c.begin-txn.result ps c.read_desk.new.pages c.is_new.new.pages c.in-Err-is_new.e c.is_halted-in-Err-is_new.result c.is_halted-in-Err-is_new.ensures started c.in-Ok.ensures.reading.passed c.is_new.ensures.quiet c.in-Err-is_new.ensures.err),
    )

pub returns-in-Err-clause-calm : goal.returns-in-Err-clause-calm
returns-in-Err-clause-calm g c = search (rules, c.row_error.ensures, calm_told, c.in-Err.e)

pub returns-clause-calm : goal.returns-clause-calm
returns-clause-calm g c = search (rules, c.row_error-in-Err-is_new.ensures, calm_told, c.in-Err-is_new.e)
