use Rattle.{std.proofs.Common.{sym, ◌∙◌}, chunk_table.{specs.Releasing.{HasReleased, ReleaseErr}, proofs.Writing.{after_reads, only_read, unread, writes_as}}}
use Rattle.{chunk_table.proofs.LettingGo.{none_counted, not_counted_here, not_removed, released_then, not_lowered}, desk_store_pages.proofs.Outcomes.match_of}
use Rattle.page_store.proofs.Stops.{quiet_more}
use Rattle.chunk_table.proofs.releases.release.Goals as goal

pub returns-in_err-count : goal.returns-in_err-count
returns-in_err-count g c =
    let e = c.in_err-count.field-0.0 in
    let looks = c.in_err-count.ensures.looks in
    unread c.from_residual.result e c.requires.begun looks.quiet c.from_residual.ensures.1 (not_counted_here c.args.number c.args.txn.now c.args.pages.now c.holder_count_of.new.pages e looks.err)

pub returns-then-count-eq0 : goal.returns-then-count-eq0
returns-then-count-eq0 g c = search (c.in_ok-count.ensures.looks, only_read, c.requires.begun, none_counted)

pub returns-in_err-remove : goal.returns-in_err-remove
returns-in_err-remove g c =
    let t = c.args.txn.now in
    let a = c.args.pages.now in
    let b = c.holder_count_of.new.pages in
    let d = c.remove.new.pages in
    let e = c.in_err-remove.field-0.0 in
    let looks = c.in_ok-count.ensures.looks in
    let why = c.in_err-remove.ensures in
    let quiet = quiet_more a b d looks.quiet why.reading.quiet in
    record {
      quiet = quiet;
      begun = why.pages ∙ c.requires.begun ∙ sym quiet.count;
      put = match_of c.from_residual-in_err-remove.result (λ _. HasReleased c.args.plan c.args.number t c.remove.new.txn a d) e (ReleaseErr c.args.number t a d) c.from_residual-in_err-remove.ensures.1
          (not_removed c.args.number c.in_ok-count.count t a b looks.passed looks.there c.in_ok-count.ensures.fits c.if-count-eq0.false d e why.reading.quiet why.reading.err);
    }

pub returns : goal.returns
returns g c =
    let number = c.args.number in
    let count = c.in_ok-count.count in
    let looks = c.in_ok-count.ensures.looks in
    let fits = c.in_ok-count.ensures.fits in
    let gone = c.in_ok-remove.ensures in
    let t = c.args.txn.now in
    let a = c.args.pages.now in
    let b = c.holder_count_of.new.pages in
    let x = c.remove.new.pages in
    let key = c.as_slice.result.now in
    let key_is = c.as_slice.ensures.bytes ∙ c.holding-key.ensures in
    writes_as c.lower.result (after_reads c.lower.result (quiet_more a b x looks.quiet gone.reading.quiet) c.lower.ensures)
    (λ _ low. released_then number count t a b looks.passed looks.there fits c.if-count-eq0.false c.args.plan c.remove.new.txn x key key_is gone.reading.passed gone.pages
    (λ honest m holds. (gone.remove honest m holds).0) gone.costs.writes gone.costs.given c.lower.new.txn c.lower.new.pages low)
    (λ e why. not_lowered number count t a b looks.passed looks.there fits c.if-count-eq0.false c.args.plan c.remove.new.txn x key key_is gone.reading.passed gone.pages
    (λ honest m holds. (gone.remove honest m holds).0) gone.costs.writes gone.costs.given c.lower.new.pages e why.0 why.1)
