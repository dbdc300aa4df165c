use Rattle.{std.proofs.Common.{◌≡◌, ◌-◌, sym, subst, arith, ℕ}, page_btree_gets.specs.{Getting.IsLevel, claim.Tree.rows, node.claim.Node.IsNode}}
use Rattle.{page_btree_removes.specs.Removing.{CanRemove, Removes, RowRemoves, IsDone, StaysAt}, page_store.specs.claim.Transactions.{stored, txn_pages, over, free_over}}
use Rattle.{sector_device.specs.claim.Disk.Image, page_btree_gets.proofs.Descent.{goes_on, some_child}, page_store.proofs.Stops.{passed_more, quiet_none, passed_none}}
use Rattle.page_btree_gets.proofs.Outcomes.{map_ok, map_err, on_ok, reads_ok, refused_by, refused_as, refused_after}
use Rattle.page_btree_removes.proofs.{FromNode.{can_below, absent, kept, no_link, emptied}, Refusals.{level_fails, below_more, link_fails, row_fails}}
use Rattle.page_btree_removes.proofs.Steps.{row_removes, leaf_there, as_get, no_rows, both_ok, done_stays}
use Rattle.page_btree_removes.proofs.removes.+remove_below.Goals as goal

pub returns-then-level-eq0-clause-removed : goal.returns-then-level-eq0-clause-removed
returns-then-level-eq0-clause-removed g t c = λ honest there can.
    let S = stored c.args.pages.now in
    let l = leaf_there _ _ _ _ _ _ can c.if-level-eq0.true in
    let node = subst (λ b. IsNode b (record { level = 0; entries = rows can.tree })) (sym there) l.0 in
    map_ok c.remove_row.result (λ did. RowRemoves c.args.txn.now c.remove_row.new.txn c.args.p c.args.key.now (rows can.tree) did × ((P : Image) (q : ℕ) → (q ≡ c.args.p → ⊥) → over c.remove_row.new.txn P q ≡ over c.args.txn.now P q))
    (λ did. Removes (over c.remove_row.new.txn S) (free_over c.remove_row.new.txn S) can did)
    (λ did done. row_removes _ S c.args.txn.now c.remove_row.new.txn c.args.level c.args.key.now c.args.p did can c.if-level-eq0.true (done.1 S) done.0)
    (both_ok c.remove_row.result _ _ (c.remove_row.ensures.row (rows can.tree) node l.1) c.remove_row.ensures.changes.elsewhere)

pub returns-then-level-eq0-clause-reading : goal.returns-then-level-eq0-clause-reading
returns-then-level-eq0-clause-reading g t c =
    let can = λ (S : Image). (c.args.page.now ≡ over c.args.txn.now S c.args.p) × CanRemove (txn_pages c.args.txn.now) (over c.args.txn.now S) (free_over c.args.txn.now S) c.args.level c.args.key.now c.args.p in
    let here = passed_none c.args.pages.now in
    let err = map_err c.remove_row.result _ _ (row_fails can c.args.txn.now c.args.p c.args.page.now c.args.pages.now c.args.pages.now (λ honest is. no_rows (stored c.args.pages.now) c.args.txn.now c.args.level c.args.key.now c.args.p c.args.page.now is.1 is.0 c.if-level-eq0.true)) c.remove_row.ensures.err in
    record { quiet = here.quiet; passed = on_ok c.remove_row.result _ here; err = err }

pub returns-in_err-child-clause-reading : goal.returns-in_err-child-clause-reading
returns-in_err-child-clause-reading g t c = refused_by _ c.from_residual.ensures.1 (quiet_none c.args.pages.now) (λ honest is.
    some_child _ _ _ _ _ (as_get _ _ _ _ _ _ c.args.page.now is.1 is.0) (let not = c.if-level-eq0.false in omega arith) (λ node at rises. c.in_err-child.ensures.err node at))

pub returns-in_err-read_level-clause-reading : goal.returns-in_err-read_level-clause-reading
returns-in_err-read_level-clause-reading g t c =
    let can = λ (S : Image). (c.args.page.now ≡ over c.args.txn.now S c.args.p) × CanRemove (txn_pages c.args.txn.now) (over c.args.txn.now S) (free_over c.args.txn.now S) c.args.level c.args.key.now c.args.p in
    let below = λ (S : Image). IsLevel (txn_pages c.args.txn.now) (over c.args.txn.now S) (c.args.level - 1) c.in_ok-child.child in
    let reaches = c.in_err-read_level.ensures.reaches in
    refused_as _ reaches.reading c.from_residual-in_err-read_level.ensures.1 (level_fails can below c.args.pages.now c.read_level.new.pages (λ honest is.
    (goes_on _ _ _ _ _ (as_get _ _ _ _ _ _ c.args.page.now is.1 is.0) c.in_ok-child.child (omega arith) reaches.few (λ node at rises. c.in_ok-child.ensures.child node at)).level) _)

pub returns-in_err-remove_below-clause-reading : goal.returns-in_err-remove_below-clause-reading
returns-in_err-remove_below-clause-reading g t c =
    let can = λ (S : Image). (c.args.page.now ≡ over c.args.txn.now S c.args.p) × CanRemove (txn_pages c.args.txn.now) (over c.args.txn.now S) (free_over c.args.txn.now S) c.args.level c.args.key.now c.args.p in
    let below = λ (S : Image). (c.read_level.new.page ≡ over c.args.txn.now S c.in_ok-child.child) × CanRemove (txn_pages c.args.txn.now) (over c.args.txn.now S) (free_over c.args.txn.now S) (c.args.level - 1) c.args.key.now c.in_ok-child.child in
    let reads = c.in_ok-read_level.ensures in
    let first = reads.reaches.reading.passed in
    let later = c.in_err-remove_below.ensures.reading in
    refused_after _ first later c.from_residual-in_err-remove_below.ensures.1 (below_more can below _ _ _ first later.quiet (λ honest is.
    can_below c.args.txn.now c.remove_below.new.txn c.args.pages.now c.read_level.new.pages c.remove_below.new.pages c.args.level c.args.p c.in_ok-child.child c.args.page.now c.read_level.new.page c.args.key.now
    c.if-level-eq0.false c.read_level.ensures.reaches.few c.in_ok-child.ensures.child first.quiet later.quiet reads.reads honest is.0 is.1) _)

pub returns-in-Absent-clause-reading : goal.returns-in-Absent-clause-reading
returns-in-Absent-clause-reading g t c = reads_ok (passed_more c.args.pages.now c.read_level.new.pages c.remove_below.new.pages c.in_ok-read_level.ensures.reaches.reading.passed c.in_ok-remove_below.ensures.reading.passed)

pub returns-in-Absent-clause-removed : goal.returns-in-Absent-clause-removed
returns-in-Absent-clause-removed g t c = λ honest there is.
    absent c.args.txn.now c.remove_below.new.txn c.args.pages.now c.read_level.new.pages c.remove_below.new.pages c.args.level c.args.p c.in_ok-child.child c.args.page.now c.read_level.new.page c.args.key.now c.if-level-eq0.false c.read_level.ensures.reaches.few c.in_ok-child.ensures.child c.in_ok-read_level.ensures.reaches.reading.quiet c.remove_below.ensures.reading.quiet c.in_ok-read_level.ensures.reads honest there is
    c.in_ok-remove_below.field-0 c.in_ok-remove_below.ensures.removed c.in-Absent.is

pub returns-in-Kept-clause-reading : goal.returns-in-Kept-clause-reading
returns-in-Kept-clause-reading g t c = reads_ok (passed_more c.args.pages.now c.read_level.new.pages c.remove_below.new.pages c.in_ok-read_level.ensures.reaches.reading.passed c.in_ok-remove_below.ensures.reading.passed)

pub returns-in-Kept-clause-removed : goal.returns-in-Kept-clause-removed
returns-in-Kept-clause-removed g t c = λ honest there is.
    kept c.args.txn.now c.remove_below.new.txn c.args.pages.now c.read_level.new.pages c.remove_below.new.pages c.args.level c.args.p c.in_ok-child.child c.args.page.now c.read_level.new.page c.args.key.now c.if-level-eq0.false c.read_level.ensures.reaches.few c.in_ok-child.ensures.child c.in_ok-read_level.ensures.reaches.reading.quiet c.remove_below.ensures.reading.quiet c.in_ok-read_level.ensures.reads honest there is
    c.in_ok-remove_below.field-0 c.in_ok-remove_below.ensures.removed c.in-Kept.is

pub returns-in-Emptied-clause-reading : goal.returns-in-Emptied-clause-reading
returns-in-Emptied-clause-reading g t c =
    let can = λ (S : Image). (c.args.page.now ≡ over c.args.txn.now S c.args.p) × CanRemove (txn_pages c.args.txn.now) (over c.args.txn.now S) (free_over c.args.txn.now S) c.args.level c.args.key.now c.args.p in
    let passed = passed_more _ _ _ c.in_ok-read_level.ensures.reaches.reading.passed c.in_ok-remove_below.ensures.reading.passed in
    record {
      quiet = passed.quiet;
      passed = on_ok c.remove_link.result _ passed;
      err = map_err c.remove_link.result _ _ (link_fails can c.remove_below.new.txn c.args.p c.args.page.now c.args.pages.now c.remove_below.new.pages (λ honest both.
          no_link c.args.txn.now c.remove_below.new.txn c.args.pages.now c.read_level.new.pages c.remove_below.new.pages c.args.level c.args.p c.in_ok-child.child c.args.page.now c.read_level.new.page c.args.key.now c.if-level-eq0.false c.read_level.ensures.reaches.few c.in_ok-child.ensures.child c.in_ok-read_level.ensures.reaches.reading.quiet c.remove_below.ensures.reading.quiet c.in_ok-read_level.ensures.reads honest both.0 both.1
          c.in_ok-remove_below.field-0 c.in_ok-remove_below.ensures.removed c.in-Emptied.is c.in_ok-remove_below.ensures.rooted.pages)) c.remove_link.ensures.err;
    }

pub returns-in-Emptied-clause-removed : goal.returns-in-Emptied-clause-removed
returns-in-Emptied-clause-removed g t c = λ honest there is.
    emptied c.args.txn.now c.remove_below.new.txn c.args.pages.now c.read_level.new.pages c.remove_below.new.pages c.args.level c.args.p c.in_ok-child.child c.args.page.now c.read_level.new.page c.args.key.now c.if-level-eq0.false c.read_level.ensures.reaches.few c.in_ok-child.ensures.child c.in_ok-read_level.ensures.reaches.reading.quiet c.remove_below.ensures.reading.quiet c.in_ok-read_level.ensures.reads honest there is
    c.in_ok-remove_below.field-0 c.in_ok-remove_below.ensures.removed c.in-Emptied.is c.remove_link.new.txn c.remove_link.result c.remove_link.ensures.link c.remove_link.ensures.changes.elsewhere

pub returns-in-Emptied-clause-stays : goal.returns-in-Emptied-clause-stays
returns-in-Emptied-clause-stays g t c = map_ok c.remove_link.result IsDone (λ did. StaysAt c.args.txn.now c.remove_link.new.txn did) (done_stays c.args.txn.now c.remove_link.new.txn) c.remove_link.ensures.done
