use Rattle.{std.{specs.{FinMap.find, Prelude.IfOk}, proofs.Common.{◌-◌, refl, subst, ◌∙◌}}, page_btree_gets.specs.{Getting.{CanGet, IsCopied}, claim.Tree.rows}}
use Rattle.{page_btree_gets.specs.declared.error.TreeError.TheVariants.NotAStore, page_btree_node.specs.claim.Places.key_cmp, sector_device.specs.claim.Disk.Image}
use Rattle.{page_store.specs.claim.Transactions.{stored, txn_pages, over}, page_btree_gets.proofs.{Below.{down, not_lent, no_child, not_below}, Descent.leaf_page}}
use Rattle.{page_btree_gets.proofs.Outcomes.{map_ok, refused_by}, page_btree_node.proofs.Nearing.first_below}
use Rattle.page_btree_gets.proofs.gets.+get_below.Goals as goal

-- ---- the page isn't lent
pub returns-in_err-own-clause-reading : goal.returns-in_err-own-clause-reading
returns-in_err-own-clause-reading g t c = not_lent c.args.txn.now c.args.level c.args.key.now c.args.p c.in_err-own.ensures.reaches.reading c.from_residual.ensures.1

-- ---- a leaf
pub returns-in_err-found-clause-reading : goal.returns-in_err-found-clause-reading
returns-in_err-found-clause-reading g t c = refused_by _ c.from_residual-in_err-found.ensures.1 c.in_ok-own.ensures.reaches.reading.quiet (rw c.in_err-found.ensures.err (λ honest is.
    let l = leaf_page _ _ _ _ _ is.0 c.if-level-eq0.true in
    c.in_err-found.ensures.refused (record { level = 0; entries = rows is.0.tree }) (rw (c.lent-bytes.ensures ∙ c.in_ok-own.ensures.lends honest) l.0) l.1 (first_below c.args.key.now (rows is.0.tree))))

pub returns-then-level-eq0-clause-value : goal.returns-then-level-eq0-clause-value
returns-then-level-eq0-clause-value g t c = λ honest is.
    let l = leaf_page _ _ _ _ _ is c.if-level-eq0.true in
    c.in_ok-found.ensures.value (record { level = 0; entries = rows is.tree }) (rw (c.lent-bytes.ensures ∙ c.in_ok-own.ensures.lends honest) l.0) l.1 (first_below c.args.key.now (rows is.tree))

-- ---- no way down
pub returns-in_err-child-clause-reading : goal.returns-in_err-child-clause-reading
returns-in_err-child-clause-reading g t c = no_child c.args.txn.now c.args.level c.args.key.now c.args.p NotAStore c.in_ok-own.ensures.reaches.reading.quiet
    c.from_residual-in_err-child.ensures.1 refl c.if-level-eq0.false c.lent-bytes.ensures c.in_ok-own.ensures.lends c.in_err-child.ensures.err

-- ---- below
pub returns-clause-value : goal.returns-clause-value
returns-clause-value g t c = λ honest is.
    let S = stored c.args.pages.now in
    let P = over c.args.txn.now S in
    let child = c.in_ok-child.child in
    let before = c.get_below.ensures.reading.quiet.honest honest in
    let same = c.in_ok-own.ensures.reaches.reading.quiet.same before in
    let go = down _ P _ _ _ child c.if-level-eq0.false c.lend_level.ensures.reaches.few (c.lent-bytes.ensures ∙ c.in_ok-own.ensures.lends before) c.in_ok-child.ensures.child is in
    let next = go.next (P child) refl in
    map_ok c.get_below.result (λ found. IsCopied found c.get_below.new.into (find key_cmp c.args.key.now (rows next.tree))) (λ found. IsCopied found c.get_below.new.into (find key_cmp c.args.key.now (rows is.tree)))
    (λ found h. h ∙ go.found (P child) refl)
    (subst (λ (S : Image). (can : CanGet (txn_pages c.args.txn.now) (over c.args.txn.now S) (c.args.level - 1) c.args.key.now (over c.args.txn.now S child)) → IfOk c.get_below.result (λ found. IsCopied found c.get_below.new.into (find key_cmp c.args.key.now (rows can.tree)))) same (c.get_below.ensures.value honest) next)

pub returns-clause-reading : goal.returns-clause-reading
returns-clause-reading g t c = not_below c.args.txn.now c.args.level c.args.key.now c.args.p c.in_ok-child.child c.if-level-eq0.false c.lend_level.ensures.reaches.few
    c.in_ok-own.ensures.reaches.reading.passed c.lent-bytes.ensures c.in_ok-own.ensures.lends c.in_ok-child.ensures.child c.get_below.ensures.reading
