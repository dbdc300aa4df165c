use Rattle.{std.{specs.{FinMap.{find, get as row_at}, Prelude.IfOk}, proofs.Common.{sym, subst, ◌∙◌}}, page_btree_gets.specs.{Getting.{CanGet, IsCopied}, claim.Tree.rows}}
use Rattle.{page_btree_node.specs.claim.Places.key_cmp, page_store.specs.claim.Transactions.{stored, txn_pages, over}, sector_device.specs.claim.Disk.Image}
use Rattle.page_btree_gets.proofs.{Below.not_from_root, Outcomes.map_ok, Tops.{rooted, no_root, top, found_rows}}
use Rattle.page_btree_gets.proofs.gets.get_from_root.Goals as goal

pub returns-then-root-eq0-clause-get : goal.returns-then-root-eq0-clause-get
returns-then-root-eq0-clause-get g c = λ honest m holds. sym (no_root _ _ _ _ m c.args.key.now holds (sym c.root-root.ensures.root ∙ c.if-root-eq0.true))

pub returns-clause-reading : goal.returns-clause-reading
returns-clause-reading g c = not_from_root c.args.txn.now c.level_of-level.result c.args.key.now c.root-root.result c.root-root.ensures.root c.if-root-eq0.false c.in_ok-own.ensures.reading.passed
    c.lent.ensures c.in_ok-own.ensures.lends c.level_of-level.ensures.level c.get_below.ensures.reading

pub returns-clause-get : goal.returns-clause-get
returns-clause-get g c = λ honest m holds.
    let S = stored c.args.pages.now in
    let t = c.args.txn.now in
    let root = c.root-root.result in
    let before = c.get_below.ensures.reading.quiet.honest honest in
    let same = c.in_ok-own.ensures.reading.quiet.same before in
    let r = rooted _ _ _ _ m holds (λ none. c.if-root-eq0.false (c.root-root.ensures.root ∙ none)) in
    let can = top _ (over t S) _ _ m r c.args.key.now root c.level_of-level.result c.root-root.ensures.root (c.lent.ensures ∙ c.in_ok-own.ensures.lends before) c.level_of-level.ensures.level in
    map_ok c.get_below.result (λ found. IsCopied found c.get_below.new.into (find key_cmp c.args.key.now (rows can.tree))) (λ found. IsCopied found c.get_below.new.into (row_at m c.args.key.now))
    (λ found h. h ∙ found_rows _ _ _ _ m r c.args.key.now)
    (subst (λ (P : Image). (is : CanGet (txn_pages t) (over t P) c.level_of-level.result c.args.key.now (over t P root)) → IfOk c.get_below.result (λ found. IsCopied found c.get_below.new.into (find key_cmp c.args.key.now (rows is.tree)))) same (c.get_below.ensures.value honest) can)
