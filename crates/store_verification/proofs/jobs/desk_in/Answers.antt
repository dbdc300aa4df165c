use Rattle.{std.proofs.Common.{sym, ◌∙◌}, page_store.proofs.Stops.quiet_more, store_verification.proofs.Rows.desk_seen}
use Rattle.store_verification.proofs.jobs.desk_in.Goals as goal

pub is_new-requires : goal.is_new-requires
is_new-requires g c = record { begun = c.begin-txn.ensures.pages }

pub returns-in_default : goal.returns-in_default
returns-in_default g c = record { quiet = c.is_new.ensures.quiet; found = λ honest. tt }

pub check_desk-requires : goal.check_desk-requires
check_desk-requires g c = record { begun = c.begin-txn.ensures.pages ∙ sym c.is_new.ensures.quiet.count }

pub returns-in_default-check_desk : goal.returns-in_default-check_desk
returns-in_default-check_desk g c = record { quiet = quiet_more _ _ _ c.is_new.ensures.quiet c.check_desk.ensures.quiet; found = λ honest. tt }

pub returns : goal.returns
returns g c =
    let begin = c.begin-txn.ensures in
    let working = c.requires.working in
    record {
      quiet = quiet_more _ _ _ c.is_new.ensures.quiet c.check_desk.ensures.quiet;
      found = desk_seen c.begin-txn.result c.args.pages.now c.is_new.new.pages c.check_desk.new.pages (record { pages = begin.pages; none = begin.none; over_is = begin.over; root = begin.root working; free = begin.free working })
          c.is_new.ensures.quiet c.check_desk.ensures.quiet c.in-Ok-true.field-0 c.in-Ok-true.field-0-test c.in-Ok-true.ensures.there c.in-Ok.ranges.items c.in-Ok.ensures.there;
    }
