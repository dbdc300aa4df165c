use Rattle.{std.proofs.Common.{◌≡◌, ◌∷◌, inr, sym, ap, subst, ◌∙◌, rules}, page_btree_gets.specs.node.claim.Node.IsNode, page_store.specs.claim.Chain.{IsIn, AreFree}}
use Rattle.{page_store.specs.claim.Transactions.{stored, txn_pages, over, free_over}, page_btree_gets.proofs.Outcomes.refused_as, page_btree_puts.proofs.Failing.take_failed}
use Rattle.page_btree_puts.proofs.tree.cut.Goals as goal

pub returns-clause-written : goal.returns-clause-written
returns-clause-written g c = λ honest are off.
    let S = stored c.args.pages.now in
    let t0 = c.args.txn.now in
    let t1 = c.take_page.new.self in
    let t2 = c.write_node.new.txn in
    let t3 = c.write_node-2.new.txn in
    let page = c.args.page in
    let right = c.in_ok-right.right in
    let taken : free_over t0 S ≡ right ∷ free_over t1 S = c.in_ok-right.ensures.taken honest in
    let are_taken : AreFree (txn_pages t0) (right ∷ free_over t1 S) = subst (AreFree (txn_pages t0)) taken are in
    let off_taken : IsIn page (right ∷ free_over t1 S) → ⊥ = subst (λ l. IsIn page l → ⊥) taken off in
    let first_free : free_over t2 S ≡ free_over t1 S = c.in_ok-write_node.ensures.free S (txn_pages t0) are_taken.3 (λ there. off_taken (inr there)) in
    let second_free : free_over t3 S ≡ free_over t2 S = c.in_ok-write_node-2.ensures.free S (txn_pages t0) (subst (AreFree (txn_pages t0)) (sym first_free) are_taken.3) (subst (λ l. IsIn right l → ⊥) (sym first_free) are_taken.2) in
    let at_right : over t3 S right ≡ c.write_node-2.new.bytes = search rules in
    record {
      lower = c.split.new.self.entries;
      both = c.split.ensures.entries;
      level = c.split.ensures.level.1;
      some = c.split.ensures.some;
      holds = search rules;
      beside = subst (λ b. IsNode b c.split.new.right) (sym at_right) c.write_node-2.ensures.node;
      elsewhere = λ q not_page not_right. search rules;
      taken = taken ∙ ap (λ l. right ∷ l) (sym (second_free ∙ first_free));
    }

pub returns-in_err-right-clause-reading : goal.returns-in_err-right-clause-reading
returns-in_err-right-clause-reading g c = refused_as _ c.in_err-right.ensures.reading c.from_residual.ensures.1 (take_failed c.args.txn.now c.args.pages.now c.take_page.new.pages _)
