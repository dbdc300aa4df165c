use Rattle.{std.{specs.Prelude.{None, OnOk}, proofs.Common.{subst, ◌∙◌, arith}}, page_btree_gets.{specs.{Getting.CanGet, Seeking.IsRead, claim.Tree.page_of}, proofs.Tops.top}}
use Rattle.{page_store.specs.claim.Transactions.{stored, txn_pages, over}, sector_device.specs.claim.Disk.Image, page_btree_gets.proofs.{Below.not_from_root, Descent.owns_page}}
use Rattle.page_btree_gets.proofs.seeks.leaf_for.Goals as goal

pub returns-then-root-eq0-clause-read : goal.returns-then-root-eq0-clause-read
returns-then-root-eq0-clause-read g c = λ honest m r. search (arith, r.sound.below (page_of r.tree) (owns_page r.tree))

pub returns-clause-reading : goal.returns-clause-reading
returns-clause-reading g c = not_from_root c.args.txn.now c.level_of-level.result c.args.key.now c.root-root.result c.root-root.ensures.root c.if-root-eq0.false c.in_ok-own.ensures.reading.passed
    c.lent.ensures c.in_ok-own.ensures.lends c.level_of-level.ensures.level c.leaf_below.ensures.reading

pub returns-clause-read : goal.returns-clause-read
returns-clause-read g c = λ honest m r.
    let S = stored c.args.pages.now in
    let t = c.args.txn.now in
    let root = c.root-root.result in
    let before = c.leaf_below.ensures.reading.quiet.honest honest in
    let same = c.in_ok-own.ensures.reading.quiet.same before in
    subst (λ (P : Image). (is : CanGet (txn_pages t) (over t P) c.level_of-level.result c.args.key.now (over t P root)) → OnOk c.leaf_below.result (IsRead is.tree is.high None c.args.key.now c.leaf_below.new.leaf c.leaf_below.new.held)) same (c.leaf_below.ensures.read honest)
    (top _ (over t S) _ _ m r c.args.key.now root c.level_of-level.result c.root-root.ensures.root (c.lent.ensures ∙ c.in_ok-own.ensures.lends before) c.level_of-level.ensures.level)
