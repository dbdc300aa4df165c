use Rattle.{std.proofs.Common.{◌≡◌, ◌∙◌, ◌∷◌, [], sym, ap, subst, refl, rules}, page_btree_gets.specs.node.claim.Node.IsNode, page_store.specs.claim.Chain.AreFree}
use Rattle.{page_store.specs.claim.Transactions.{stored, txn_pages, txn_root, over, free_over}, page_btree_gets.proofs.Outcomes.refused_as}
use Rattle.page_btree_puts.proofs.{Failing.take_failed, Placing.first_node, Roots.first_holds}
use Rattle.page_store.proofs.gate_journal.Images.{put_on}
use Rattle.page_btree_puts.proofs.puts.put_first.Goals as goal

pub returns-clause-put : goal.returns-clause-put
returns-clause-put g c = λ honest m none holds.
    let S = stored c.args.pages.now in
    let n = txn_pages c.args.txn.now in
    let page = c.in_ok-page.page in
    let t0 = c.args.txn.now in
    let t1 = c.take_page.new.self in
    let t3 = c.set_root.new.self in
    let taken : free_over t0 S ≡ page ∷ free_over t1 S = c.in_ok-page.ensures.taken honest in
    let are : AreFree n (page ∷ free_over t1 S) = subst (AreFree n) taken holds.free_are in
    let free : free_over t3 S ≡ free_over t1 S = (c.set_root.ensures.same S).1 ∙ c.in_ok-write_node.ensures.free S n are.3 are.2 in
    let taken_now : free_over t0 S ≡ page ∷ free_over t3 S = taken ∙ ap (λ l. page ∷ l) (sym free) in
    let bytes : over t3 S page ≡ c.write_node.new.bytes = ap (λ P. P page) (c.set_root.ensures.same S).0 ∙ c.in_ok-write_node.ensures.written S page ∙ put_on (page, c.write_node.new.bytes) (over t1 S) page refl in
    let node : IsNode c.write_node.new.bytes (record { level = 0; entries = (c.args.key.now, c.args.value.now) ∷ [] }) = subst (IsNode c.write_node.new.bytes) (first_node (c.args.key.now, c.args.value.now) c.clear.new.self c.insert.new.self c.clear.ensures c.insert.ensures) c.write_node.ensures.node in
    let made = first_holds n (over t0 S) (over t3 S) (txn_root t0) (free_over t0 S) (free_over t3 S) page m c.args.key.now c.args.value.now none holds taken_now (subst (λ b. IsNode b (record { level = 0; entries = (c.args.key.now, c.args.value.now) ∷ [] })) (sym bytes) node) in
    search rules

pub returns-in_err-page-clause-reading : goal.returns-in_err-page-clause-reading
returns-in_err-page-clause-reading g c = refused_as _ c.in_err-page.ensures.reading c.from_residual.ensures.1 (take_failed c.args.txn.now c.args.pages.now c.take_page.new.pages _)
