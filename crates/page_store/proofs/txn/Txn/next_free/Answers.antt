use Rattle.{std.proofs.Common.{◌≡◌, ◌∙◌, List, ℕ, ap, arith, rules}, gate_journal.specs.claim.Store.word, page_store.specs.claim.Chain.AreFree}
use Rattle.page_store.{specs.claim.Transactions.{over, stored, disk_in, free_over}, proofs.Chains.{chain_pop, first_blank, second_below, both_ways}}
use Rattle.page_store.proofs.txn.Txn.next_free.Goals as goal

pub returns-then-not-is_blank_page-clause-reading : goal.returns-then-not-is_blank_page-clause-reading
returns-then-not-is_blank_page-clause-reading g c = search (arith, both_ways, first_blank)

pub returns-then-next-self-clause-reading : goal.returns-then-next-self-clause-reading
returns-then-next-self-clause-reading g c =
    let t = c.args.self.now in
    let P = over t (stored c.args.pages.now) in
    let err : (disk_in c.read.new.pages).is_honest → AreFree t.pages (free_over t (stored c.args.pages.now)) → ⊥ = λ honest free.
    let next : c.word_at-next.result ≡ word (P t.first) 0 = c.word_at-next.ensures ∙ ap (λ (s : List ℕ). word s 0) (c.in_ok-read.ensures.reads honest) in
    let below = second_below t.pages P t.first t.free (omega (arith, c.requires.some, c.if-self-eq1.false)) free in
    omega (arith, next, below, c.if-next-self.true) in
    search rules

pub returns-clause-next : goal.returns-clause-next
returns-clause-next g c = λ honest. search (rules, chain_pop)
