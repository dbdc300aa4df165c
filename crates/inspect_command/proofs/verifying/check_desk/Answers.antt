use Rattle.{std.proofs.Common.{◌≡◌, true, sym, ap, ◌∙◌, rules}, desk_model.specs.{Ranges.ranges_in, claim.Desk.Desk}, page_btree.specs.gets.claim.Map.InTxn}
use Rattle.{inspect_command.proofs.Unsound.{opening_check, whole_check, holdings_check, then_check, still, found_as, found_stray, not_stray}, page_store.proofs.Stops.passed_more}
use Rattle.inspect_command.proofs.verifying.check_desk.Goals as goal

pub returns-in_err-catalogue-clause-err : goal.returns-in_err-catalogue-clause-err
returns-in_err-catalogue-clause-err g c = search (rules, opening_check)

pub returns-in_err-checked-clause-err : goal.returns-in_err-checked-clause-err
returns-in_err-checked-clause-err g c = search (rules, then_check, whole_check)

pub returns-then-is_some-clause-found : goal.returns-then-is_some-clause-found
returns-then-is_some-clause-found g c = λ honest m holds.
    let read = c.in_ok-catalogue.ensures in
    let quiet = c.check_rows.ensures.quiet in
    found_stray m c.in_ok-catalogue.catalogue c.as_slice.result.now (c.as_slice.ensures.value ∙ c.in_ok-ranges.ensures.ranges) c.in_ok-checked.checked.stray c.in_ok-checked.checked.rows
    (sym c.is_some.ensures ∙ c.if-is_some.true) (read.found (quiet.honest honest) m holds) (c.in_ok-checked.ensures.there honest m (still (λ P. InTxn c.args.txn.now P m) read.reading.passed quiet honest holds))

pub returns-then-is_some-clause-right : goal.returns-then-is_some-clause-right
returns-then-is_some-clause-right g c = λ honest e h belong.
    let read = c.in_ok-catalogue.ensures in
    let quiet = c.check_rows.ensures.quiet in
    let same : c.as_slice.result.now ≡ ranges_in e.geography = c.as_slice.ensures.value ∙ c.in_ok-ranges.ensures.ranges ∙ ap (λ (x : Desk). ranges_in x.geography) (read.read (quiet.honest honest) true e h) in
    not_stray h.m e c.as_slice.result.now same c.in_ok-checked.checked.stray c.in_ok-checked.checked.rows belong (c.in_ok-checked.ensures.there honest h.m (still (λ P. InTxn c.args.txn.now P h.m) read.reading.passed quiet honest h.holds))

pub returns-in_err-check_holdings-clause-err : goal.returns-in_err-check_holdings-clause-err
returns-in_err-check_holdings-clause-err g c =
    let passed = passed_more c.args.pages.now c.read_desk.new.pages c.check_rows.new.pages c.in_ok-catalogue.ensures.reading.passed c.in_ok-checked.ensures.passed in
    search (rules, then_check, holdings_check)

pub returns-clause-found : goal.returns-clause-found
returns-clause-found g c = λ honest m holds.
    let read = c.in_ok-catalogue.ensures in
    let quiet = c.check_rows.ensures.quiet in
    let middle = c.check_holdings.ensures.quiet.honest honest in
    let passed = passed_more c.args.pages.now c.read_desk.new.pages c.check_rows.new.pages read.reading.passed c.in_ok-checked.ensures.passed in
    found_as m c.in_ok-catalogue.catalogue c.as_slice.result.now (c.as_slice.ensures.value ∙ c.in_ok-ranges.ensures.ranges) c.in_ok-checked.checked.stray c.in_ok-checked.checked.rows
    (sym c.is_some.ensures ∙ c.if-is_some.false) (read.found (quiet.honest middle) m holds)
    (c.in_ok-check_holdings.ensures.there honest m (still (λ P. InTxn c.args.txn.now P m) passed c.check_holdings.ensures.quiet honest holds))
    (c.in_ok-checked.ensures.there middle m (still (λ P. InTxn c.args.txn.now P m) read.reading.passed quiet middle holds))

pub returns-clause-right : goal.returns-clause-right
returns-clause-right g c = λ honest e h belong.
    let read = c.in_ok-catalogue.ensures in
    let quiet = c.check_rows.ensures.quiet in
    let middle = c.check_holdings.ensures.quiet.honest honest in
    let same : c.as_slice.result.now ≡ ranges_in e.geography = c.as_slice.ensures.value ∙ c.in_ok-ranges.ensures.ranges ∙ ap (λ (x : Desk). ranges_in x.geography) (read.read (quiet.honest middle) true e h) in
    not_stray h.m e c.as_slice.result.now same c.in_ok-checked.checked.stray c.in_ok-checked.checked.rows belong (c.in_ok-checked.ensures.there middle h.m (still (λ P. InTxn c.args.txn.now P h.m) read.reading.passed quiet middle h.holds))
