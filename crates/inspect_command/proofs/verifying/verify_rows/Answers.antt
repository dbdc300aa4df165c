use Rattle.{std.proofs.Common.{refl, subst, rules}, inspect_command.{specs.Sound.IsSoundAs, proofs.{Devices.{holds_sound, holds_stray}, Unsound.pages_unsound}}}
use Rattle.page_store.proofs.Stops.{quiet_more}
use Rattle.store_command.proofs.desk_store.Prepared.{IsBegun}
use Rattle.inspect_command.proofs.verifying.verify_rows.Goals as goal

pub returns-in-None : goal.returns-in-None
returns-in-None g c =
    let begin = c.begin-txn.ensures in
    let a = c.args.pages.now in
    let begun : IsBegun a c.begin-txn.result = record { pages = begin.pages; none = begin.none; over_is = begin.over; root = begin.root c.requires; free = begin.free c.requires } in
    let checked = c.in-Ok.checked in
    let sound = holds_sound c.begin-txn.result a c.find_desk.new.pages (record { pages = c.page_count.result; rows = checked.rows }) begun c.find_desk.ensures.quiet c.page_count.ensures
    (λ honest m holds. subst (λ w. IsSoundAs w checked.rows m) c.in-None.is (c.in-Ok.ensures.sound honest m holds)) in
    search rules

pub returns-in-Ok : goal.returns-in-Ok
returns-in-Ok g c = record {
  quiet = search rules;
  told = search rules;
  sound = search rules;
  err = let begin = c.begin-txn.ensures in
      let a = c.args.pages.now in
      let begun : IsBegun a c.begin-txn.result = record { pages = begin.pages; none = begin.none; over_is = begin.over; root = begin.root c.requires; free = begin.free c.requires } in
      let checked = c.in-Ok.checked in
      let stray = holds_stray c.begin-txn.result a c.find_desk.new.pages c.in-Some.row checked.stray c.in-Some.is begun c.find_desk.ensures.quiet
      (λ honest m holds. subst (λ w. IsSoundAs w checked.rows m) c.in-Some.is (c.in-Ok.ensures.sound honest m holds)) c.in-Ok.ensures.right in
      (refl, rw c.in-Some.is stray);
}

pub returns : goal.returns
returns g c =
    let quiet = quiet_more c.args.pages.now c.find_desk.new.pages c.row_for-row.new.pages c.find_desk.ensures.quiet c.row_for-row.ensures.quiet in
    search (rules, pages_unsound)
