use Rattle.{std.proofs.Common.{◌≡◌, ◌-◌, ◌∙◌, ℕ, List, true, false, sym, subst, arith, rules}, gate_journal.{specs.claim.Store.{home, header_of}, proofs.Quiet.looks_so}}
use Rattle.gate_journal.proofs.Headers.{journal_is, same_bytes}
use lib.{Dec.eqb, Pointwise.pointwise}
use Rattle.gate_journal.proofs.opening.find_layout.Goals as goal

pub returns-then-journal_pages-lt-LEAST_JOURNAL-clause-looks : goal.returns-then-journal_pages-lt-LEAST_JOURNAL-clause-looks
returns-then-journal_pages-lt-LEAST_JOURNAL-clause-looks g c = looks_so (search rules) (search rules) (λ honest is.
    let j : c.word_at-journal_pages.result ≡ is.J = c.word_at-journal_pages.ensures ∙ journal_is _ _ _ is (c.in_ok-read.ensures.reads honest) in
    omega (arith, j, is.store.least_journal, is.store.most_journal, c.then-journal_pages-lt-LEAST_JOURNAL.either))

pub returns-then-count-home-clause-looks : goal.returns-then-count-home-clause-looks
returns-then-count-home-clause-looks g c = looks_so (search rules) (search rules) (λ honest is.
    let j : c.word_at-journal_pages.result ≡ is.J = c.word_at-journal_pages.ensures ∙ journal_is _ _ _ is (c.in_ok-read.ensures.reads honest) in
    omega (arith, j, is.whole, is.store.least_pages, c.count-count.ensures, c.if-count-home.true))

pub returns-else-eq-clause-looks : goal.returns-else-eq-clause-looks
returns-else-eq-clause-looks g c = looks_so (search rules) (search rules) (λ honest is.
    let j : c.word_at-journal_pages.result ≡ is.J = c.word_at-journal_pages.ensures ∙ journal_is _ _ _ is (c.in_ok-read.ensures.reads honest) in
    let n : c.count-count.result - home c.word_at-journal_pages.result ≡ is.n = omega (arith, j, is.whole, c.count-count.ensures) in
    let same : c.read.new.sector ≡ c.fill_header.new.sector = c.in_ok-read.ensures.reads honest ∙ is.store.header ∙ sym (c.fill_header.ensures ∙ (λ i. header_of (j i) (n i))) in
    let yes = subst (λ (ys : List ℕ). pointwise eqb c.read.new.sector ys ≡ true) same (same_bytes c.read.new.sector) in
    let never : false ≡ true = c.if-eq.ensures ∙ yes in
    cc)
