use Rattle.{std.{specs.{FinMap.{find, get as row_at}, Prelude.{IfSome, Some}}, proofs.Common.{◌∙◌, arith}}, page_btree_gets.specs.Getting.IsCopied}
use Rattle.{page_btree_node.specs.claim.Places.key_cmp, page_store.specs.claim.Transactions.stored, page_btree_gets.proofs.Outcomes.{map_ok, fault_refused}}
use Rattle.{page_btree_gets.proofs.Placed.{placed_as, some_copied}, page_btree_node.proofs.Nearing.{first_below, where_err}}
use Rattle.page_btree_gets.proofs.gets.get_held.Goals as goal

pub returns-clause-get : goal.returns-clause-get
returns-clause-get g c = λ honest m holds.
    let small = c.if-not-is_small_leaf.false in
    let key = c.args.key.now in
    let it = placed_as c.args.txn.now (stored c.args.pages.now) m c.held_page-page.result holds c.if-page-eq0.false (let same = c.page_count.ensures in let less = c.if-page-page_count.false in omega arith)
    (c.lent-bytes.ensures ∙ c.in_ok-own.ensures.lends honest) (c.is_small_leaf.ensures.leaf small) (c.is_small_leaf.ensures.used small) in
    let into = c.copy_value.new.into in
    map_ok c.copy_value.result (λ found. IsCopied found into (find key_cmp key it.rows_in)) (λ found. IfSome found (λ length_is. IsCopied (Some length_is) into (row_at m key)))
    (λ found is. some_copied m key into it.rows_in found (it.found key) is)
    (c.copy_value.ensures.value (record { level = 0; entries = it.rows_in }) it.node it.rises (first_below key it.rows_in))

pub returns-clause-reading : goal.returns-clause-reading
returns-clause-reading g c = fault_refused c.in_ok-own.ensures.reading.passed c.copy_value.ensures.err (where_err c.copy_value.result _ _ (λ refused honest m holds.
    let small = c.if-not-is_small_leaf.false in
    let it = placed_as c.args.txn.now (stored c.args.pages.now) m c.held_page-page.result holds c.if-page-eq0.false (let same = c.page_count.ensures in let less = c.if-page-page_count.false in omega arith)
    (c.lent-bytes.ensures ∙ c.in_ok-own.ensures.lends honest) (c.is_small_leaf.ensures.leaf small) (c.is_small_leaf.ensures.used small) in
    refused (record { level = 0; entries = it.rows_in }) it.node it.rises (first_below c.args.key.now it.rows_in)) c.copy_value.ensures.refused)
