use Rattle.{std.proofs.Common.{◌≡◌, ◌<◌, ℕ, true, false}, gate_journal.specs.claim.Store.word}
use Rattle.page_store.proofs.txn.is_blank_page.Given as goal

abbrev pub invariant-loop-k : goal.invariant-loop-k
invariant-loop-k l = record {
  yes : l.blank ≡ true → (j : ℕ) → 0 < j → j < l.k → word l.page j ≡ 0;
  no : l.blank ≡ false → ((j : ℕ) → 0 < j → j < l.k → word l.page j ≡ 0) → ⊥;
}
