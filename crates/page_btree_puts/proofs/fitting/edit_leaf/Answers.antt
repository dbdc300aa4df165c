use Rattle.{std.{specs.Prelude.{Result, Option, Some, IfOk, IfSome, MatchOption}, proofs.Common.{◌≡◌, ℕ, List, Ok, refl, subst, ◌∙◌, rules}}, page_store.specs.declared.txn.Txn.Txn}
use Rattle.page_btree_gets.specs.{gate_journal.Writes.IsEdited, node.{Searching.IsBelow, Spots.IsRowPut, claim.{Entries.Entry, Node.IsNode, Places.Rises}}}
use Rattle.{page_btree_gets.specs.node.declared.{edit.RowPut.RowPut, search.RowNear.RowNear}, page_btree_puts.specs.Fitting.IsLeafPut, page_store.specs.claim.Chain.{IsIn, AreFree}}
use Rattle.{page_store.specs.{Transactions.{txn_list, IsWritten}, claim.Transactions.{over, free_over}}, sector_device.specs.claim.Disk.Image}
use Rattle.page_btree_gets.proofs.gate_journal.Images.{put_on, put_off}
use Rattle.page_btree_puts.proofs.fitting.edit_leaf.Goals as goal

leaf_put : {E : Type 0} (told : Option (Result (Option RowPut) E)) (A : Type 0) (step : List ℕ → Result (Option RowPut) E → List ℕ → Type 0) (t0 t1 : Txn) (page : ℕ) (from : RowNear) (key value : List ℕ)
    → MatchOption told A (λ r. IsWritten t0 page × IsEdited step r (txn_list t0) (txn_list t1) page)
    → ((P : Image) (n : ℕ) → AreFree n (free_over t0 P) → (IsIn page (free_over t0 P) → ⊥) → free_over t1 P ≡ free_over t0 P)
    → ((a b : List ℕ) (r : Result (Option RowPut) E) → step a r b → (es : List Entry) → IsNode a (record { level = 0; entries = es }) → Rises es → IsBelow key es from.k from.at → IfOk r (λ did. IsRowPut a b key value es did))
    → IfSome told (λ r. IfOk r (λ did. IfSome did (λ put. (S : Image) → IsLeafPut t0 t1 S page from key value put)))
leaf_put (Some (Ok (Some put))) A step t0 t1 page from key value edited free steps = λ S es is rises begun.
    let e = edited.1 in
    let done = steps e.before e.after _ e.steps es (subst (λ b. IsNode b (record { level = 0; entries = es })) (e.before_is S) is) rises begun in
    let there : over t1 S page ≡ e.after = e.put_is S page ∙ put_on (page, e.after) (over t0 S) page refl in search (done.2, e.put_is, put_off)
leaf_put _ A step t0 t1 page from key value edited free steps = tt

pub returns-clause-put : goal.returns-clause-put
returns-clause-put c = leaf_put c.edit.result _ _ c.args.txn.now c.edit.new.self c.args.page c.args.from c.args.key.now c.args.value.now c.edit.ensures.edited c.edit.ensures.free (λ a b r s. search rules)
