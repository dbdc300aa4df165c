use Rattle.{std.{specs.Bool.Decides, proofs.{Common.{◌≡◌, ◌<◌, ℕ, arith}, lemmas.Bool.{true_from_ne_false, Decides.same_from_decides}}}, gate_journal.specs.claim.Store.word}
use Rattle.page_store.{specs.claim.Chain.is_blank, proofs.Chains.blank_decides}
use Rattle.page_store.proofs.txn.is_blank_page.Goals as goal

pub returns : goal.returns
returns c =
    let told = c.loop-k.invariant in
    let words : Decides c.loop-k.blank ((k : ℕ) → 0 < k → k < 1024 → word c.args.page.now k ≡ 0) =
    (λ is k some lt. told.yes is k some (omega arith), λ all. true_from_ne_false c.loop-k.blank (λ is. told.no is (λ j some lt. all j some (omega arith)))) in
    same_from_decides c.loop-k.blank (is_blank c.args.page.now) words (blank_decides c.args.page.now)
