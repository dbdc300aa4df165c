use Rattle.{std.proofs.Common.{sym, subst, rules}, desk_store_opening.specs.Opening.OpenErr, desk_store_opening_tidy.specs.Owners.HasOwners, sector_device.specs.claim.Disk.Image}
use Rattle.{page_btree.specs.gets.claim.Map.InTxn as InTree, desk_store_opening.proofs.Owned.{has_owners, parts_owned}, desk_store_pages.proofs.Outcomes.err_of}
use Rattle.{desk_store_opening.proofs.WholeDesks.{unkept, unopened, unread_unopened, then_unopened, still_reads}, page_store.proofs.Stops.{quiet_more, passed_more}}
use Rattle.desk_store_opening.proofs.desks.read_desk.Goals as goal

pub returns-in_err-check_rows-clause-reading : goal.returns-in_err-check_rows-clause-reading
returns-in_err-check_rows-clause-reading g c = search (rules, unkept)

pub returns-in_err-catalogue-clause-reading : goal.returns-in_err-catalogue-clause-reading
returns-in_err-catalogue-clause-reading g c = record {
  quiet = quiet_more c.args.pages.now c.check_rows.new.pages c.read_rows.new.pages c.check_rows.ensures.quiet c.read_rows.ensures.quiet;
  passed = search rules;
  err = err_of c.from_residual-in_err-catalogue.result c.in_err-catalogue.field-0.0 (OpenErr c.args.txn.now c.args.pages.now c.read_rows.new.pages) c.from_residual-in_err-catalogue.ensures.1
      (then_unopened c.args.txn.now c.args.pages.now c.check_rows.new.pages c.read_rows.new.pages c.in_ok-check_rows.ensures.passed c.read_rows.ensures.quiet c.in_err-catalogue.field-0.0
      (unopened c.args.txn.now c.check_rows.new.pages c.read_rows.new.pages c.in_err-catalogue.field-0.0 c.in_err-catalogue.ensures.err));
}

pub returns-in_err-check_owners-clause-reading : goal.returns-in_err-check_owners-clause-reading
returns-in_err-check_owners-clause-reading g c = record {
  quiet = search quiet_more;
  passed = search rules;
  err = let first = c.in_ok-check_rows.ensures.passed in
      err_of c.from_residual-in_err-check_owners.result c.in_err-check_owners.field-0.0 (OpenErr c.args.txn.now c.args.pages.now c.check_owners.new.pages) c.from_residual-in_err-check_owners.ensures.1
      (unread_unopened (HasOwners c.read_rows.new.counts) c.args.txn.now c.args.pages.now c.read_rows.new.pages c.check_owners.new.pages
      (passed_more c.args.pages.now c.check_rows.new.pages c.read_rows.new.pages first c.in_ok-catalogue.ensures.passed) c.check_owners.ensures.quiet
      (λ honest m x holds is.
      let there = subst (λ (P : Image). InTree c.args.txn.now P m) (sym (first.quiet.same (c.read_rows.ensures.quiet.honest honest))) holds in
      has_owners m c.read_rows.new.counts (c.in_ok-catalogue.ensures.there honest m there).there.1 x.1 is)
      c.in_err-check_owners.field-0.0 c.in_err-check_owners.ensures.err);
}

pub returns-clause-reading : goal.returns-clause-reading
returns-clause-reading g c = record { quiet = search quiet_more; passed = search (rules, passed_more); err = search rules }

pub returns-clause-read : goal.returns-clause-read
returns-clause-read g c = λ honest new d held.
    let then = c.check_owners.ensures.quiet.honest honest in
    let still = still_reads c.args.txn.now c.args.pages.now c.check_rows.new.pages d c.in_ok-check_rows.ensures.passed (c.read_rows.ensures.quiet.honest then) held in
    (c.in_ok-catalogue.ensures.there then still.m still.holds).read (new, d) still.is

pub returns-clause-found : goal.returns-clause-found
returns-clause-found g c = λ honest m holds.
    let then = c.check_owners.ensures.quiet.honest honest in
    let before = c.read_rows.ensures.quiet.honest then in
    let there = subst (λ (P : Image). InTree c.args.txn.now P m) (sym (c.in_ok-check_rows.ensures.passed.quiet.same before)) holds in
    let still = subst (λ (P : Image). InTree c.args.txn.now P m) (sym (c.in_ok-catalogue.ensures.passed.quiet.same then)) there in
    let read = (c.in_ok-catalogue.ensures.there then m there).there in
    let owned = parts_owned m c.read_rows.new.counts read.1 (c.in_ok-check_owners.ensures.there honest m still) in
    record { numbers = c.in_ok-check_rows.ensures.there before m holds; shown = read.0; owned = owned }
