use Rattle.{std.proofs.Common.{◌≡◌, sym, ◌∙◌, rules}, page_btree_removes.specs.Removing.CanRemove, sector_device.specs.claim.Disk.Image, page_btree_gets.proofs.Tops.no_root}
use Rattle.{page_store.specs.claim.Transactions.{stored, txn_pages, txn_root, over, free_over}, page_btree_gets.proofs.Outcomes.{reads_ok, refused_after}}
use Rattle.{page_btree_removes.proofs.{FromRoot.{can_there, absent, kept, emptied}, Lefts.{none_there, thinner_same}, Refusals.remove_fails}, page_store.proofs.Stops.passed_more}
use Rattle.page_btree_removes.proofs.removes.remove_through.Goals as goal

pub returns-then-root-eq0 : goal.returns-then-root-eq0
returns-then-root-eq0 g c = record {
  reading = search rules;
  pages = search rules;
  remove = λ honest m holds.
      let none = no_root _ _ _ _ m c.args.key.now holds (sym c.root-root.ensures.root ∙ c.if-root-eq0.true) in
      (search (rules, none_there _ _ _ _ m c.args.key.now holds none), search (rules, none_there _ _ _ _ m c.args.key.now holds none), thinner_same (over c.args.txn.now (stored c.args.pages.now)) (txn_root c.args.txn.now));
  costs = search rules;
}

pub returns-in_err-remove_below : goal.returns-in_err-remove_below
returns-in_err-remove_below g c =
    let t = c.args.txn.now in
    let below = λ (S : Image). (c.read.new.page ≡ over t S c.root-root.result) × CanRemove (txn_pages t) (over t S) (free_over t S) c.level_of-level.result c.args.key.now c.root-root.result in
    let first = c.in_ok-read.ensures.reading.passed in
    let later = c.in_err-remove_below.ensures.reading in
    record {
      reading = refused_after _ first later c.from_residual-in_err-remove_below.ensures.1 (remove_fails below t _ _ _ first later.quiet (λ honest m holds.
          can_there t c.remove_below.new.txn c.args.pages.now c.read.new.pages c.remove_below.new.pages c.root-root.result c.level_of-level.result c.read.new.page c.args.key.now c.root-root.ensures.root c.if-root-eq0.false
          first.quiet later.quiet c.in_ok-read.ensures.reads c.level_of-level.ensures.level honest m holds) _);
      pages = search rules;
      remove = search rules;
      costs = search rules;
    }

pub returns-in-Absent : goal.returns-in-Absent
returns-in-Absent g c = record {
  reading = reads_ok (passed_more c.args.pages.now c.read.new.pages c.remove_below.new.pages (c.in_ok-read.ensures.reading.passed) c.in_ok-remove_below.ensures.reading.passed);
  pages = search rules;
  remove = λ honest m holds.
      absent c.args.txn.now c.remove_below.new.txn c.args.pages.now c.read.new.pages c.remove_below.new.pages c.root-root.result c.level_of-level.result c.read.new.page c.args.key.now c.root-root.ensures.root c.if-root-eq0.false c.in_ok-read.ensures.reading.quiet c.remove_below.ensures.reading.quiet c.in_ok-read.ensures.reads c.level_of-level.ensures.level honest m holds
      c.in_ok-remove_below.field-0 c.in_ok-remove_below.ensures.removed c.in-Absent.is c.in_ok-remove_below.ensures.stays;
  costs = search rules;
}

pub returns-in-Kept : goal.returns-in-Kept
returns-in-Kept g c = record {
  reading = reads_ok (passed_more c.args.pages.now c.read.new.pages c.remove_below.new.pages (c.in_ok-read.ensures.reading.passed) c.in_ok-remove_below.ensures.reading.passed);
  pages = search rules;
  remove = λ honest m holds.
      kept c.args.txn.now c.remove_below.new.txn c.args.pages.now c.read.new.pages c.remove_below.new.pages c.root-root.result c.level_of-level.result c.read.new.page c.args.key.now c.root-root.ensures.root c.if-root-eq0.false c.in_ok-read.ensures.reading.quiet c.remove_below.ensures.reading.quiet c.in_ok-read.ensures.reads c.level_of-level.ensures.level honest m holds
      c.in_ok-remove_below.field-0 c.in_ok-remove_below.ensures.removed c.in-Kept.is c.in_ok-remove_below.ensures.rooted.pages c.in_ok-remove_below.ensures.rooted.root;
  costs = search rules;
}

pub returns-in-Emptied : goal.returns-in-Emptied
returns-in-Emptied g c = record {
  reading = reads_ok (passed_more c.args.pages.now c.read.new.pages c.remove_below.new.pages (c.in_ok-read.ensures.reading.passed) c.in_ok-remove_below.ensures.reading.passed);
  pages = search rules;
  remove = λ honest m holds.
      let same = c.set_root.ensures.same (stored c.args.pages.now) in
      emptied c.args.txn.now c.remove_below.new.txn c.args.pages.now c.read.new.pages c.remove_below.new.pages c.root-root.result c.level_of-level.result c.read.new.page c.args.key.now c.root-root.ensures.root c.if-root-eq0.false c.in_ok-read.ensures.reading.quiet c.remove_below.ensures.reading.quiet c.in_ok-read.ensures.reads c.level_of-level.ensures.level honest m holds
      c.in_ok-remove_below.field-0 c.in_ok-remove_below.ensures.removed c.in-Emptied.is c.set_root.new.self (c.set_root.ensures.pages ∙ c.in_ok-remove_below.ensures.rooted.pages) c.set_root.ensures.root same.0 same.1;
  costs = search rules;
}
