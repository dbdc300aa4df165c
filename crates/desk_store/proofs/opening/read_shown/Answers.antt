use Rattle.{std.proofs.Common.{sym, ap, subst, ◌∙◌, rules}, desk_store.specs.Finding.FindErr, desk_store_pages.specs.declared.error.StoreError.StoreError}
use Rattle.{desk_store_rows.specs.claim.Tidy.version_row, page_store.specs.claim.Transactions.IsQuiet, desk_store.proofs.Prepared.{IsBegun, begun_reads}}
use Rattle.{desk_store.proofs.Opened.{none_read, old_refused, rows_begun, version_unread}, desk_store_opening.proofs.WholeDesks.{still_reads, then_unopened}}
use Rattle.{desk_store_pages.proofs.Refusals.calm_told, page_store.proofs.Stops.{quiet_more, passed_more}}
use Rattle.desk_store.proofs.opening.read_shown.Given.{Over}
use Rattle.desk_store.proofs.opening.read_shown.Goals.{After-begin-txn, After-read_desk}
use Rattle.desk_store.proofs.opening.read_shown.Goals as goal

begun : (g : Over) (c : After-begin-txn g) → IsBegun c.args.pages.now c.begin-txn.result
begun g c = search rules

quiet : (g : Over) (c : After-read_desk g) → IsQuiet c.args.pages.now c.read_desk.new.pages
quiet g c = quiet_more c.args.pages.now c.is_new.new.pages c.read_desk.new.pages c.is_new.ensures.quiet c.read_desk.ensures.reading.quiet

pub returns-in-Ok-false-clause-reading : goal.returns-in-Ok-false-clause-reading
returns-in-Ok-false-clause-reading g c =
    let a = c.args.pages.now in
    let b = c.is_new.new.pages in
    let d = c.refusal_of_old.new.pages in
    let at = goal.at.returns-in-Ok-false-clause-reading g c in
    search (rules, quiet_more a b d c.is_new.ensures.quiet c.refusal_of_old.ensures.quiet, old_refused a b d c.begin-txn.result c.refusal_of_old.result (begun g at.After-begin-txn) c.in-Ok-false.ensures.passed c.refusal_of_old.ensures.quiet (λ honest m holds. c.in-Ok-false.ensures.there honest m holds ∙ ap version_row c.in-Ok-false.field-0-test) c.refusal_of_old.ensures.why)

pub returns-in-Err-clause-reading : goal.returns-in-Err-clause-reading
returns-in-Err-clause-reading g c = search (rules, version_unread, begun)

pub returns-in-Err-clause-calm : goal.returns-in-Err-clause-calm
returns-in-Err-clause-calm g c = search (rules, calm_told)

pub returns-in-Err-read_desk-clause-reading : goal.returns-in-Err-read_desk-clause-reading
returns-in-Err-read_desk-clause-reading g c =
    let a = c.args.pages.now in
    let d = c.read_desk.new.pages in
    let t = c.begin-txn.result in
    let at = goal.at.returns-in-Err-read_desk-clause-reading g c in
    search (
      rules,
      quiet g (goal.at.returns-in-Err-read_desk-clause-reading g c).After-read_desk,
      subst (λ (e : StoreError). FindErr a d e) (sym c.row_error-in-Err-read_desk.ensures) (none_read a d t c.in-Err-read_desk.e c.is_halted-in-Err-read_desk.result (begun g at.After-begin-txn) (quiet g at.After-read_desk) c.is_halted-in-Err-read_desk.ensures c.requires (then_unopened t a c.is_new.new.pages d c.in-Ok-true.ensures.passed c.read_desk.ensures.reading.quiet c.in-Err-read_desk.e c.in-Err-read_desk.ensures.reading.err)),
    )

pub returns-in-Err-read_desk-clause-calm : goal.returns-in-Err-read_desk-clause-calm
returns-in-Err-read_desk-clause-calm g c = search (rules, calm_told)

pub returns-in-Ok-new-clause-reading : goal.returns-in-Ok-new-clause-reading
returns-in-Ok-new-clause-reading g c = search (rules, quiet, passed_more)

pub returns-in-Ok-new-clause-read : goal.returns-in-Ok-new-clause-read
returns-in-Ok-new-clause-read g c = λ honest x holds.
    let at = goal.at.returns-in-Ok-new-clause-read g c in
    let was = c.read_desk.ensures.reading.quiet.honest honest in
    let held = begun_reads c.args.pages.now c.begin-txn.result x.1 (begun g at.After-begin-txn) (c.is_new.ensures.quiet.honest was) holds in
    c.in-Ok-new.ensures.ok ∙ c.in-Ok.ensures.read honest x.0 x.1 (still_reads c.begin-txn.result c.args.pages.now c.is_new.new.pages x.1 c.in-Ok-true.ensures.passed was held)

pub returns-in-Ok-new-clause-found : goal.returns-in-Ok-new-clause-found
returns-in-Ok-new-clause-found g c =
    λ honest m holds. search (rows_begun, begun, quiet, c.in-Ok-new.ensures.ok, c.in-Ok.ensures.found, c.is_new.ensures.quiet.same, c.read_desk.ensures.reading.quiet.honest)

pub returns-in-Ok-new-clause-version : goal.returns-in-Ok-new-clause-version
returns-in-Ok-new-clause-version g c =
    λ honest m holds. search (c.read_desk.ensures.reading.quiet.honest, c.in-Ok-true.ensures.there, rows_begun, begun, c.is_new.ensures.quiet, c.in-Ok-true.field-0-test)

pub returns-clause-reading : goal.returns-clause-reading
returns-clause-reading g c = search (rules, quiet g (goal.at.returns-clause-reading g c).After-read_desk)
