use Rattle.{std.{specs.{FinMap.{find, put}, Prelude.{Ok, Err, is_some}}, proofs.Common.{◌≡◌, ◌-◌, ℕ, List, None, arith, rules}}, page_btree_gets.specs.Errors.IsNoWant}
use Rattle.{page_btree_gets.specs.node.claim.Places.key_cmp, page_btree_puts.specs.{Outcomes.IsRaisedBy, Putting.{IsWritten, CanPutSome}}, page_store.proofs.Stops.passed_more}
use Rattle.{page_store.specs.claim.Transactions.{stored, txn_pages, txn_free, over, free_over}, page_btree_puts.proofs.Counting.{few_none, few_some, few_taken}}
use Rattle.page_btree_gets.proofs.Outcomes.{map_ok, match_of, reads_ok, reads_as, refused_as, refused_after}
use Rattle.page_btree_puts.proofs.{Failing.{step_failed, below_failed, link_failed}, FromNode.{can_some, same_length, put_none, has_node, put_some, wide_none, wide_some}}
use Rattle.page_btree_puts.proofs.Leaves.{leaf_rows, leaf_node, leaf_rises, leaf_off, leaf_raised}
use Rattle.page_btree_puts.proofs.puts.+put_at.Goals as goal

-- ---- a leaf
pub returns-then-level-eq0-clause-put : goal.returns-then-level-eq0-clause-put
returns-then-level-eq0-clause-put g t c = λ honest low high tree can.
    let z = c.if-level-eq0.true in
    let es = leaf_rows _ _ _ _ _ _ _ _ _ tree z can in
    let S = stored c.args.pages.now in
    map_ok c.put_row.result
    (λ placed. (placed.had ≡ is_some (find key_cmp c.args.key.now es)) × IsWritten (over c.args.txn.now S) (over c.put_row.new.txn S) (free_over c.args.txn.now S) (free_over c.put_row.new.txn S) c.args.page placed.right (record { level = 0; entries = put key_cmp c.args.key.now c.args.value.now es }) c.put_row.new.room.upper)
    (λ placed. (k : List ℕ) → IsRaisedBy c.args.txn.now c.put_row.new.txn S c.args.level low high (c.args.key.now, c.args.value.now) placed k c.args.page tree c.put_row.new.room.upper)
    (λ placed w. leaf_raised _ _ _ _ _ _ _ _ _ tree z can _ _ c.args.value.now placed.had placed.right c.put_row.new.room.upper w)
    (c.put_row.ensures.put honest es (leaf_node _ _ _ _ _ _ _ _ _ tree z can) (leaf_rises _ _ _ _ _ _ _ _ _ tree z can) can.free_are (leaf_off _ _ _ _ _ _ _ _ _ tree z can))

pub returns-then-level-eq0-clause-fixed : goal.returns-then-level-eq0-clause-fixed
returns-then-level-eq0-clause-fixed g t c = λ honest low high tree held can there same.
    let S = stored c.args.pages.now in
    let P = over c.args.txn.now S in
    let free = free_over c.args.txn.now S in
    let n = txn_pages c.args.txn.now in
    let z = c.if-level-eq0.true in
    search rules

pub returns-then-level-eq0-clause-few : goal.returns-then-level-eq0-clause-few
returns-then-level-eq0-clause-few g t c = search rules

pub returns-then-level-eq0-clause-reading : goal.returns-then-level-eq0-clause-reading
returns-then-level-eq0-clause-reading g t c = reads_as c.put_row.ensures.reading (search rules)

-- ---- no step down
pub returns-in_err-child-clause-reading : goal.returns-in_err-child-clause-reading
returns-in_err-child-clause-reading g t c = refused_as _ c.in_err-child.ensures.reading c.from_residual.ensures.1 (step_failed c.args.level (CanPutSome (txn_pages c.args.txn.now) (over c.args.txn.now) c.args.level (free_over c.args.txn.now) c.args.page c.args.room.now.page c.args.key.now) c.args.txn.now c.args.pages.now c.step_down.new.pages _)

pub returns-in_err-child-clause-fixed : goal.returns-in_err-child-clause-fixed
returns-in_err-child-clause-fixed g t c = λ honest low high tree held can there same. search rules

-- ---- refused below
pub returns-in_err-below-clause-reading : goal.returns-in_err-below-clause-reading
returns-in_err-below-clause-reading g t c =
    let d = c.args.level in
    let can = CanPutSome (txn_pages c.args.txn.now) (over c.args.txn.now) c.args.level (free_over c.args.txn.now) c.args.page c.args.room.now.page c.args.key.now in
    let can_there = CanPutSome (txn_pages c.args.txn.now) (over c.args.txn.now) (d - 1) (free_over c.args.txn.now) c.in_ok-child.child c.step_down.new.bytes c.args.key.now in
    let first = c.in_ok-child.ensures.reading.passed in
    let later = c.in_err-below.ensures.reading in
    refused_after _ first later c.from_residual-in_err-below.ensures.1 (below_failed d (d - 1) can can_there c.args.txn.now _ _ _ first later.quiet (omega arith)
    (λ honest is. can_some c.args.txn.now c.args.pages.now c.step_down.new.pages c.args.level c.args.page c.in_ok-child.child c.args.room.now.page c.step_down.new.bytes c.args.key.now c.args.value.now
    c.if-level-eq0.false c.in_ok-child.ensures.few c.in_ok-child.ensures.told first.quiet c.in_ok-child.ensures.reads (later.quiet.honest honest) is.0 is.1 is.2 is.3) _)

pub returns-in_err-below-clause-fixed : goal.returns-in_err-below-clause-fixed
returns-in_err-below-clause-fixed g t c = λ honest low high tree held can there same.
    match_of c.from_residual-in_err-below.result (λ placed. (placed.right ≡ None) × (txn_free c.put_at.new.txn ≡ txn_free c.args.txn.now)) c.in_err-below.field-0.0 IsNoWant c.from_residual-in_err-below.ensures.1
    (same_length c.args.txn.now c.args.pages.now c.step_down.new.pages c.args.level c.args.page c.in_ok-child.child c.args.room.now.page c.step_down.new.bytes c.args.key.now c.args.value.now c.if-level-eq0.false c.in_ok-child.ensures.few c.in_ok-child.ensures.told c.step_down.ensures.reading.quiet c.in_ok-child.ensures.reads (c.put_at.ensures.reading.quiet.honest honest) low high tree can c.put_at.new.txn c.put_at.new.pages held (Err c.in_err-below.field-0.0) c.in_err-below.ensures.fixed honest there same)

-- ---- nothing is cut below
pub returns-in-None-clause-reading : goal.returns-in-None-clause-reading
returns-in-None-clause-reading g t c = reads_ok (passed_more _ _ _ c.in_ok-child.ensures.reading.passed c.in_ok-below.ensures.reading.passed)

pub returns-in-None-clause-put : goal.returns-in-None-clause-put
returns-in-None-clause-put g t c = λ honest low high tree can.
    put_none c.args.txn.now c.args.pages.now c.step_down.new.pages c.args.level c.args.page c.in_ok-child.child c.args.room.now.page c.step_down.new.bytes c.args.key.now c.args.value.now c.if-level-eq0.false c.in_ok-child.ensures.few c.in_ok-child.ensures.told c.step_down.ensures.reading.quiet c.in_ok-child.ensures.reads (c.put_at.ensures.reading.quiet.honest honest) low high tree can
    c.put_at.new.txn c.put_at.new.pages c.in_ok-below.below c.put_at.new.room.upper c.in_ok-below.ensures.put honest c.in-None.is c.put_at.new.room.upper

pub returns-in-None-clause-fixed : goal.returns-in-None-clause-fixed
returns-in-None-clause-fixed g t c = λ honest low high tree held can there same.
    same_length c.args.txn.now c.args.pages.now c.step_down.new.pages c.args.level c.args.page c.in_ok-child.child c.args.room.now.page c.step_down.new.bytes c.args.key.now c.args.value.now c.if-level-eq0.false c.in_ok-child.ensures.few c.in_ok-child.ensures.told c.step_down.ensures.reading.quiet c.in_ok-child.ensures.reads (c.put_at.ensures.reading.quiet.honest honest) low high tree can c.put_at.new.txn c.put_at.new.pages held (Ok c.in_ok-below.below) c.in_ok-below.ensures.fixed honest there same

pub returns-in-None-clause-few : goal.returns-in-None-clause-few
returns-in-None-clause-few g t c = let deep = c.if-level-eq0.false in few_none c.args.level c.args.txn.now c.put_at.new.txn c.in_ok-below.below.right (omega arith) c.in-None.is c.in_ok-below.ensures.few

-- ---- no link
pub returns-in_err-cut-in-Some-clause-reading : goal.returns-in_err-cut-in-Some-clause-reading
returns-in_err-cut-in-Some-clause-reading g t c =
    let d = c.args.level in
    let can = CanPutSome (txn_pages c.args.txn.now) (over c.args.txn.now) c.args.level (free_over c.args.txn.now) c.args.page c.args.room.now.page c.args.key.now in
    let first = c.in_ok-child.ensures.reading.passed in
    let passed = passed_more _ _ _ first c.in_ok-below.ensures.reading.passed in
    let later = c.in_err-cut-in-Some.ensures.reading in
    refused_after _ passed later c.from_residual-in_err-cut-in-Some.ensures.1 (link_failed d can c.args.page c.args.txn.now c.put_at.new.txn _ _ _ passed later.quiet
    (few_taken d c.args.txn.now c.put_at.new.txn c.in-Some.right c.in_ok-below.below.right (omega arith) c.in-Some.is c.in_ok-below.ensures.few)
    (λ honest is.
    let middle = later.quiet.honest honest in
    has_node c.args.txn.now c.args.pages.now c.step_down.new.pages c.args.level c.args.page c.in_ok-child.child c.args.room.now.page c.step_down.new.bytes c.args.key.now c.args.value.now
    c.if-level-eq0.false c.in_ok-child.ensures.few c.in_ok-child.ensures.told first.quiet c.in_ok-child.ensures.reads (c.put_at.ensures.reading.quiet.honest middle) is.0 is.1 is.2 is.3
    c.put_at.new.txn c.put_at.new.pages c.in_ok-below.below c.put_at.new.room.upper c.in_ok-below.ensures.put middle c.put_at.ensures.stays.rooted.pages c.put_at.ensures.reading.quiet) _)

pub returns-in_err-cut-in-Some-clause-fixed : goal.returns-in_err-cut-in-Some-clause-fixed
returns-in_err-cut-in-Some-clause-fixed g t c = λ honest low high tree held can there same.
    let middle = c.link.ensures.reading.quiet.honest honest in
    absurd (cc ((same_length c.args.txn.now c.args.pages.now c.step_down.new.pages c.args.level c.args.page c.in_ok-child.child c.args.room.now.page c.step_down.new.bytes c.args.key.now c.args.value.now c.if-level-eq0.false c.in_ok-child.ensures.few c.in_ok-child.ensures.told c.step_down.ensures.reading.quiet c.in_ok-child.ensures.reads (c.put_at.ensures.reading.quiet.honest middle) low high tree can c.put_at.new.txn c.put_at.new.pages held (Ok c.in_ok-below.below) c.in_ok-below.ensures.fixed middle there same).0, c.in-Some.is))

-- ---- a link more
pub returns-in_ok-cut-in-Some-clause-reading : goal.returns-in_ok-cut-in-Some-clause-reading
returns-in_ok-cut-in-Some-clause-reading g t c = reads_ok (passed_more _ _ _ c.in_ok-child.ensures.reading.passed (passed_more _ _ _ c.in_ok-below.ensures.reading.passed c.in_ok-cut-in-Some.ensures.reading.passed))

pub returns-in_ok-cut-in-Some-clause-put : goal.returns-in_ok-cut-in-Some-clause-put
returns-in_ok-cut-in-Some-clause-put g t c = λ honest low high tree can.
    let middle = c.link.ensures.reading.quiet.honest honest in
    put_some c.args.txn.now c.args.pages.now c.step_down.new.pages c.args.level c.args.page c.in_ok-child.child c.args.room.now.page c.step_down.new.bytes c.args.key.now c.args.value.now c.if-level-eq0.false c.in_ok-child.ensures.few c.in_ok-child.ensures.told c.step_down.ensures.reading.quiet c.in_ok-child.ensures.reads (c.put_at.ensures.reading.quiet.honest middle) low high tree can
    c.put_at.new.txn c.put_at.new.pages c.in_ok-below.below c.put_at.new.room.upper c.in_ok-below.ensures.put middle c.link.new.txn c.in-Some.right c.in_ok-cut-in-Some.cut c.link.new.room.upper c.in-Some.is c.put_at.ensures.stays.rooted.pages c.put_at.ensures.reading.quiet (c.in_ok-cut-in-Some.ensures.linked honest)

pub returns-in_ok-cut-in-Some-clause-fixed : goal.returns-in_ok-cut-in-Some-clause-fixed
returns-in_ok-cut-in-Some-clause-fixed g t c = λ honest low high tree held can there same.
    let middle = c.link.ensures.reading.quiet.honest honest in
    absurd (cc ((same_length c.args.txn.now c.args.pages.now c.step_down.new.pages c.args.level c.args.page c.in_ok-child.child c.args.room.now.page c.step_down.new.bytes c.args.key.now c.args.value.now c.if-level-eq0.false c.in_ok-child.ensures.few c.in_ok-child.ensures.told c.step_down.ensures.reading.quiet c.in_ok-child.ensures.reads (c.put_at.ensures.reading.quiet.honest middle) low high tree can c.put_at.new.txn c.put_at.new.pages held (Ok c.in_ok-below.below) c.in_ok-below.ensures.fixed middle there same).0, c.in-Some.is))

pub returns-in_ok-cut-in-Some-clause-few : goal.returns-in_ok-cut-in-Some-clause-few
returns-in_ok-cut-in-Some-clause-few g t c = let deep = c.if-level-eq0.false in few_some c.args.level c.args.txn.now c.put_at.new.txn c.link.new.txn c.in-Some.right c.in_ok-below.below.right c.in_ok-cut-in-Some.cut (omega arith) c.in-Some.is c.in_ok-below.ensures.few c.in_ok-cut-in-Some.ensures.few

-- ---- how many entries the node has
pub returns-then-level-eq0-clause-wide : goal.returns-then-level-eq0-clause-wide
returns-then-level-eq0-clause-wide g t c = λ honest deep. absurd (let z = c.if-level-eq0.true in omega arith)

pub returns-in-None-clause-wide : goal.returns-in-None-clause-wide
returns-in-None-clause-wide g t c = λ honest deep low high tree can.
    wide_none c.args.txn.now c.args.pages.now c.step_down.new.pages c.args.level c.args.page c.in_ok-child.child c.args.room.now.page c.step_down.new.bytes c.args.key.now c.args.value.now c.if-level-eq0.false c.in_ok-child.ensures.few c.in_ok-child.ensures.told c.step_down.ensures.reading.quiet c.in_ok-child.ensures.reads (c.put_at.ensures.reading.quiet.honest honest) low high tree can
    c.put_at.new.txn c.put_at.new.pages c.in_ok-below.below c.put_at.new.room.upper c.in_ok-below.ensures.put honest c.in-None.is

pub returns-in_ok-cut-in-Some-clause-wide : goal.returns-in_ok-cut-in-Some-clause-wide
returns-in_ok-cut-in-Some-clause-wide g t c = λ honest deep low high tree can.
    let middle = c.link.ensures.reading.quiet.honest honest in
    wide_some c.args.txn.now c.args.pages.now c.step_down.new.pages c.args.level c.args.page c.in_ok-child.child c.args.room.now.page c.step_down.new.bytes c.args.key.now c.args.value.now c.if-level-eq0.false c.in_ok-child.ensures.few c.in_ok-child.ensures.told c.step_down.ensures.reading.quiet c.in_ok-child.ensures.reads (c.put_at.ensures.reading.quiet.honest middle) low high tree can
    c.put_at.new.txn c.put_at.new.pages c.in_ok-below.below c.put_at.new.room.upper c.in_ok-below.ensures.put middle c.link.new.txn c.in-Some.right c.in_ok-cut-in-Some.cut c.link.new.room.upper c.put_at.ensures.stays.rooted.pages c.put_at.ensures.reading.quiet (c.in_ok-cut-in-Some.ensures.linked honest) (c.in_ok-cut-in-Some.ensures.wide honest)
