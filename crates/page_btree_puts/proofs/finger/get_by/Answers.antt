use Rattle.{std.{specs.FinMap.{find, get as row_at}, proofs.Common.{◌≢◌, sym, ◌∙◌}}, page_btree_gets.specs.{Getting.{CanGetIn, IsCopied}, node.claim.Places.key_cmp}}
use Rattle.{page_btree_puts.specs.Fingers.StandsIn, page_store.specs.claim.Transactions.{stored, txn_pages, txn_root, over}, sector_device.specs.claim.Disk.Image}
use Rattle.{page_btree_gets.proofs.{Outcomes.{map_ok, reads_as}, Tops.no_root}, page_btree_puts.proofs.{Fits.get_where_err, Placed.known_found}}
use Rattle.page_btree_puts.proofs.finger.get_by.Goals as goal

pub returns-then-root-eq0-clause-get : goal.returns-then-root-eq0-clause-get
returns-then-root-eq0-clause-get g c = λ honest m holds stands. sym (no_root _ _ _ _ m c.args.key.now holds (sym c.root-root.ensures.root ∙ c.if-root-eq0.true))

pub returns-clause-get : goal.returns-clause-get
returns-clause-get g c = λ honest m holds stands.
    let t = c.args.txn.now in
    let key = c.args.key.now in
    let some : txn_root t ≢ 0 = λ none. c.if-root-eq0.false (c.root-root.ensures.root ∙ none) in
    let known = known_found t (stored c.args.pages.now) m c.args.finger.now key c.get_in_leaf.ensures.few holds some c.requires.below c.requires.between (stands c.requires.some) in
    map_ok c.get_in_leaf.result (λ found. IsCopied found c.get_in_leaf.new.into (find key_cmp key known.0.0)) (λ found. IsCopied found c.get_in_leaf.new.into (row_at m key))
    (λ found h. h ∙ known.1) (c.get_in_leaf.ensures.value honest known.0)

pub returns-clause-reading : goal.returns-clause-reading
returns-clause-reading g c =
    let t = c.args.txn.now in
    let f = c.args.finger.now in
    let can = λ (S : Image). CanGetIn (txn_pages t) (over t S) f.page f.near c.args.key.now in
    reads_as c.get_in_leaf.ensures.reading (get_where_err can (λ S. StandsIn t S f) t c.args.pages.now c.get_in_leaf.new.pages (λ honest m holds stands.
    (known_found t (stored c.args.pages.now) m f c.args.key.now c.get_in_leaf.ensures.few holds (λ none. c.if-root-eq0.false (c.root-root.ensures.root ∙ none)) c.requires.below c.requires.between (stands c.requires.some)).0))
