use Rattle.std.{specs.Prelude.OnOk, proofs.{Common.{◌≡◌, ◌-◌, ℕ, List, [], length, get_or, slice_set, refl, sym, ap, subst, ◌∙◌, arith}, lemmas.List.get_or-set_same}}
use Rattle.{page_btree_gets.specs.{Getting.CanGet, Seeking.{bound_in, nearer, leaf_of, bound_of, IsRead}, claim.Tree.rows}, page_btree_node.specs.Places.{ceiling, entries_from}}
use Rattle.{page_btree_node.specs.{Walking.IsAhead, claim.{Entries.Entry, Node.{Node, IsNode}}}, page_store.specs.claim.Transactions.{stored, txn_pages, over}}
use Rattle.{sector_device.specs.claim.Disk.Image, page_btree_gets.proofs.{Below.{down, not_lent, no_child, not_below}, Descent.leaf_page, Outcomes.{map_ok, fault_refused}}}
use Rattle.{page_btree_gets.proofs.{Following.{leaf_alone, held_alone, read_held, read_more}, Rising.node_rises}, page_btree_node.proofs.Nearing.where_err}
use Rattle.page_btree_gets.proofs.seeks.+leaf_below.Goals as goal

-- ---- a leaf
pub returns-in_err-read_level-clause-reading : goal.returns-in_err-read_level-clause-reading
returns-in_err-read_level-clause-reading g t c = rw c.if-level-eq0.true (not_lent c.args.txn.now 0 c.args.key.now c.args.p c.in_err-read_level.ensures.reaches.reading c.from_residual.ensures.1)

pub returns-then-level-eq0-clause-read : goal.returns-then-level-eq0-clause-read
returns-then-level-eq0-clause-read g t c = λ honest is.
    let P = over c.args.txn.now (stored c.args.pages.now) in
    let key = c.args.key.now in
    let up = bound_in c.args.leaf.now in
    let now = c.stand.new.leaf in
    let page = c.read_level.new.page in
    let pages : List (List ℕ) = slice_set c.args.held.now 0 page in
    let first : get_or {A = List ℕ} pages 0 [] ≡ page = get_or-set_same c.args.held.now 0 page [] (omega arith) in
    let l = leaf_page (txn_pages c.args.txn.now) P c.args.level key (P c.args.p) is c.if-level-eq0.true in
    let node : Node = record { level = 0; entries = rows is.tree } in
    let read : get_or {A = List ℕ} pages 0 [] ≡ P c.args.p = first ∙ c.in_ok-read_level.ensures.reads honest in
    let there : IsNode (get_or {A = List ℕ} pages 0 []) node = subst (λ (b : List ℕ). IsNode b node) (sym read) l.0 in
    let same : rows is.tree ≡ leaf_of is.tree key = leaf_alone is.tree P c.args.level is.low is.high key c.if-level-eq0.true is.tree_is in
    read_held is.tree is.high up key pages c.stand.result now now
    (held_alone (txn_pages c.args.txn.now) P c.args.level key (P c.args.p) is c.if-level-eq0.true up now pages c.stand.ensures.more c.stand.ensures.bound there l.1)
    refl refl
    (subst (λ (es : List Entry). OnOk c.stand.result (IsAhead (get_or {A = List ℕ} pages 0 []) now.at (entries_from key es))) same (c.stand.ensures.rows node there l.1))
    (subst (λ (es : List Entry). OnOk c.stand.result (now.left ≡ length (entries_from key es))) same (c.stand.ensures.left node there l.1))

pub returns-then-level-eq0-clause-reading : goal.returns-then-level-eq0-clause-reading
returns-then-level-eq0-clause-reading g t c = fault_refused c.in_ok-read_level.ensures.reaches.reading.passed c.stand.ensures.err (where_err c.stand.result _ _ (λ none honest is.
    let first = get_or-set_same c.args.held.now 0 c.read_level.new.page [] (omega arith) in
    none (record { level = 0; entries = rows is.0.tree }) (rw (first, c.in_ok-read_level.ensures.reads honest) (leaf_page _ _ _ _ _ is.0 c.if-level-eq0.true).0)) c.stand.ensures.refused)

-- ---- no way down
pub returns-in_err-own-clause-reading : goal.returns-in_err-own-clause-reading
returns-in_err-own-clause-reading g t c = not_lent c.args.txn.now c.args.level c.args.key.now c.args.p c.in_err-own.ensures.reaches.reading c.from_residual-in_err-own.ensures.1

pub returns-in_err-child-clause-reading : goal.returns-in_err-child-clause-reading
returns-in_err-child-clause-reading g t c = no_child c.args.txn.now c.args.level c.args.key.now c.args.p c.in_err-child.field-0.0 c.in_ok-own.ensures.reaches.reading.quiet
    c.from_residual-in_err-child.ensures.1 c.in_err-child.ensures.err c.if-level-eq0.false c.lent-bytes.ensures c.in_ok-own.ensures.lends c.in_err-child.ensures.refused

-- ---- just above the leaves
pub returns-then-level-eq1-clause-read : goal.returns-then-level-eq1-clause-read
returns-then-level-eq1-clause-read g t c = λ honest. rw c.if-level-eq1.true (c.leaves_below.ensures.read honest)

pub returns-then-level-eq1-clause-reading : goal.returns-then-level-eq1-clause-reading
returns-then-level-eq1-clause-reading g t c = rw c.if-level-eq1.true c.leaves_below.ensures.reading

-- ---- below
pub returns-clause-read : goal.returns-clause-read
returns-clause-read g t c = λ honest is.
    let P = over c.args.txn.now (stored c.args.pages.now) in
    let child = c.in_ok-child.child in
    let before = c.leaf_below.ensures.reading.quiet.honest honest in
    let same = c.in_ok-own.ensures.reaches.reading.quiet.same before in
    let there : c.lent-bytes.result.now ≡ P c.args.p = c.lent-bytes.ensures ∙ c.in_ok-own.ensures.lends before in
    let go = down _ P _ _ _ child c.if-level-eq0.false c.lend_level.ensures.reaches.few there c.in_ok-child.ensures.child is in
    let next = go.next (P child) refl in
    let up = bound_in c.args.leaf.now in
    let mid = bound_in c.go_down.new.leaf in
    let kept : mid ≡ nearer (ceiling c.args.key.now go.node.entries) up = c.in_ok-child.ensures.bound go.node (subst (λ b. IsNode b go.node) (sym there) go.node_is) (node_rises _ _ _ _ _ is (omega arith) go.node go.node_is) in
    let key = c.args.key.now in
    let held = c.leaf_below.new.leaf in
    let pages = c.leaf_below.new.held in
    map_ok c.leaf_below.result (λ _. IsRead next.tree next.high mid key held pages) (λ _. IsRead is.tree is.high up key held pages)
    (λ _ h. read_more next.tree is.tree is.low next.low next.high is.high mid up key held pages (go.wider (P child) refl) (go.leaf_is (P child) refl)
    (λ x within. ap (λ b. bound_of next.tree b x) kept ∙ go.bound_is (P child) refl x within up) next.between h)
    (subst (λ (S : Image). (can : CanGet (txn_pages c.args.txn.now) (over c.args.txn.now S) (c.args.level - 1) key (over c.args.txn.now S child)) → OnOk c.leaf_below.result (IsRead can.tree can.high mid key held pages)) same (c.leaf_below.ensures.read honest) next)

pub returns-clause-reading : goal.returns-clause-reading
returns-clause-reading g t c = not_below c.args.txn.now c.args.level c.args.key.now c.args.p c.in_ok-child.child c.if-level-eq0.false c.lend_level.ensures.reaches.few
    c.in_ok-own.ensures.reaches.reading.passed c.lent-bytes.ensures c.in_ok-own.ensures.lends c.in_ok-child.ensures.child c.leaf_below.ensures.reading
