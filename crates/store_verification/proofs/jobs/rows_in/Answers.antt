use Rattle.{std.proofs.Common.{sym, ◌∙◌}, page_store.proofs.Stops.quiet_more, store_verification.proofs.Rows.rows_seen}
use Rattle.store_verification.proofs.jobs.rows_in.Goals as goal

pub returns-in_default-note_parts : goal.returns-in_default-note_parts
returns-in_default-note_parts g c = record { quiet = quiet_more _ _ _ c.check_holdings.ensures.quiet c.note_parts.ensures.quiet; found = λ honest. tt }

pub returns-in_default-counties_in : goal.returns-in_default-counties_in
returns-in_default-counties_in g c = record { quiet = quiet_more _ _ _ c.check_holdings.ensures.quiet (quiet_more _ _ _ c.note_parts.ensures.quiet c.counties_in.ensures.quiet); found = λ honest. tt }

pub returns-in_default-check_rows : goal.returns-in_default-check_rows
returns-in_default-check_rows g c = record { quiet = quiet_more _ _ _ c.check_holdings.ensures.quiet (quiet_more _ _ _ (quiet_more _ _ _ c.note_parts.ensures.quiet c.counties_in.ensures.quiet) c.check_rows.ensures.quiet); found = λ honest. tt }

pub returns-then-is_some : goal.returns-then-is_some
returns-then-is_some g c = record { quiet = quiet_more _ _ _ c.check_holdings.ensures.quiet (quiet_more _ _ _ (quiet_more _ _ _ c.note_parts.ensures.quiet c.counties_in.ensures.quiet) c.check_rows.ensures.quiet); found = λ honest. tt }

pub returns : goal.returns
returns g c =
    let begin = c.begin-txn.ensures in
    let working = c.requires.working in
    let middle = quiet_more _ _ _ c.note_parts.ensures.quiet c.counties_in.ensures.quiet in
    record {
      quiet = quiet_more _ _ _ c.check_holdings.ensures.quiet (quiet_more _ _ _ middle c.check_rows.ensures.quiet);
      found = rows_seen c.begin-txn.result c.args.pages.now c.check_holdings.new.pages c.counties_in.new.pages c.check_rows.new.pages (record { pages = begin.pages; none = begin.none; over_is = begin.over; root = begin.root working; free = begin.free working })
          c.check_holdings.ensures.quiet middle c.check_rows.ensures.quiet c.in-Ok.ensures.there c.in-Ok-check_rows.checked.stray c.in-Ok-check_rows.checked.rows c.as_slice.result.now c.in-Some.ranges.items (sym c.is_some.ensures ∙ c.if-is_some.false) c.as_slice.ensures.value
          c.in-Ok-check_rows.ensures.there;
    }
