use Rattle.{std.proofs.Common.{◌≡◌, ◌∙◌, ◌∷◌, ℕ, [], sym, ap, subst, rules}, page_btree_gets.specs.node.{Entries.key_at, claim.Entries.{Entry, child_bytes}}}
use Rattle.{page_btree_puts.specs.Putting.IsGrown, page_store.specs.claim.{Chain.AreFree, Transactions.{stored, txn_pages, over, free_over}}}
use Rattle.page_btree_puts.proofs.puts.grow.Goals as goal

pub returns-clause-grown : goal.returns-clause-grown
returns-clause-grown g c = λ honest are.
    let S = stored c.args.pages.now in
    let t0 = c.args.txn.now in
    let t1 = c.take_page.new.self in
    let t3 = c.set_root.new.self in
    let top = c.in_ok-top.top in
    let taken : free_over t0 S ≡ top ∷ free_over t1 S = c.in_ok-top.ensures.taken honest in
    let are_taken : AreFree (txn_pages t0) (top ∷ free_over t1 S) = subst (AreFree (txn_pages t0)) taken are in
    let free : free_over t3 S ≡ free_over t1 S = (c.set_root.ensures.same S).1 ∙ c.in_ok-write_node.ensures.free S (txn_pages t0) are_taken.3 are_taken.2 in
    let written : (q : ℕ) → over t3 S q ≡ over c.write_node.new.txn S q = λ q. ap (λ P. P q) (c.set_root.ensures.same S).0 in
    let first : ◌≡◌ {A = Entry} ([], c.to_be_bytes.result) ([], child_bytes c.args.root) = λ i. ([], c.to_be_bytes.ensures i) in
    let second : ◌≡◌ {A = Entry} (c.key.result.now, c.to_be_bytes-2.result) (key_at c.args.room.now.upper.entries 0, child_bytes c.args.right) = λ i. (c.key.ensures.key i, c.to_be_bytes-2.ensures i) in
    let bound = key_at c.args.room.now.upper.entries 0 in
    let grown : IsGrown (over t0 S) (over t3 S) (free_over t0 S) (free_over t3 S) c.args.root c.args.right c.args.level bound top =
    search rules in
    subst (IsGrown (over t0 S) (over t3 S) (free_over t0 S) (free_over t3 S) c.args.root c.args.right c.args.level bound) (sym c.set_root.ensures.root) grown
