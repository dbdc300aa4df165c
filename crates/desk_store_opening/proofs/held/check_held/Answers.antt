use Rattle.{std.proofs.Common.{◌≡◌, inl, rules}, desk_store_opening.{specs.Held.IsHeld, proofs.FreeLists.{owned_from, then_so, so_before}}, page_btree.specs.checks.Owners.AreOwned}
use Rattle.page_store.{specs.claim.Transactions.{stored, count_of, over}, proofs.Stops.{passed_more, quiet_more, failed_more}}
use Rattle.page_btree.proofs.gets.Outcomes.{reads_ok, reads_err}
use Rattle.desk_store_opening.proofs.held.check_held.Goals as goal

pub returns-in-Ok-clause-reading : goal.returns-in-Ok-clause-reading
returns-in-Ok-clause-reading g c = reads_ok (passed_more _ _ _ c.in_ok-has_end.ensures.reading.passed c.in-Ok.ensures.reading.passed)

pub returns-in-Ok-clause-held : goal.returns-in-Ok-clause-held
returns-in-Ok-clause-held g c = λ honest.
    let owned = c.in-Ok.ensures.owned honest in
    inl (so_before c.args.pages.now c.has_end.new.pages IsHeld c.in_ok-has_end.ensures.reading.quiet (c.in-Ok.ensures.reading.quiet.honest honest) (owned.0, owned.1.holds))

pub returns-in-Err-Unsound-clause-reading : goal.returns-in-Err-Unsound-clause-reading
returns-in-Err-Unsound-clause-reading g c =
    let a = c.args.pages.now in
    let b = c.has_end.new.pages in
    let end = c.in_ok-has_end.ensures in
    let check = c.in-Err-Unsound.ensures.reading in
    let why = rw c.in-Err-Unsound.field-0-is at check.err in
    let same : over c.begin-txn.result (stored a) ≡ stored a = λ i q. c.begin-txn.ensures.over q i in
    reads_err (quiet_more _ _ _ end.reading.quiet check.quiet) (λ honest held.
    let was = check.quiet.honest honest in
    let ends = rw same at ((end.end was).yes (search (rules, c.if-not-branch.false))) in
    why honest (then_so a b AreOwned end.reading.quiet was (owned_from (count_of a) (stored a) held ends)))

pub returns-in-Err-DeviceFault-clause-reading : goal.returns-in-Err-DeviceFault-clause-reading
returns-in-Err-DeviceFault-clause-reading g c =
    let passed = c.in_ok-has_end.ensures.reading.passed in
    let check = c.in-Err-DeviceFault.ensures.reading in
    reads_err (quiet_more _ _ _ passed.quiet check.quiet) (failed_more _ _ _ passed check.quiet (rw c.in-Err-DeviceFault.field-0-is at check.err))

pub returns-clause-reading : goal.returns-clause-reading
returns-clause-reading g c = reads_err (quiet_more _ _ _ c.in_ok-has_end.ensures.reading.quiet c.in-Err-Memory.ensures.reading.quiet) tt
