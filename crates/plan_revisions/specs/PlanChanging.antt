-- A change of plans, or its refusal.
use Rattle.std.specs.Prelude.{◌≡◌, ℕ, List, Result, IfErr}
use Rattle.{desk_store_pages.specs.Outcomes.Writes, desk_store_rows.specs.{claim.Puts.Row, declared.value.Counters.Counters}, page_store.specs.claim.Transactions.txn_free}
use Rattle.{page_btree.specs.gets.declared.error.TreeError.{TreeError, TheVariants.NoPages}, page_store.specs.declared.{pages.Pages.Pages, txn.Txn.Txn}}
use Rattle.plan_revisions.specs.{claim.Outcomes.{IsChanged, ChangeErr, HasRetired, RetireErr}, declared.change.ChangeOutcome.ChangeOutcome}
use Rattle.sector_device.specs.declared.SectorDevice.{Ghosts}

-- What a change came to; where pages ran out, the transaction has none left.
pub record UntilFull {T : Type 0} (outcome : Type 0) (u : Txn) (result : Result T TreeError) : Type 0 where
  pub did : outcome
  pub exhausted : IfErr result (λ e. e ≡ NoPages → txn_free u ≡ 0)

module _ {D : Type 0} {g : Ghosts D} where
  -- what became of a change, or why it was refused
  abbrev pub Changes : (Counters → Type 0) → (Counters → List Row) → Txn → Txn → Pages D g → Pages D g → Result ChangeOutcome TreeError → Type 0
  Changes enough rows t u old new result = Writes (λ change. IsChanged enough rows t u old new change) (ChangeErr rows t old new) u old new result

  -- the plan under a name was taken away, or it is told why not
  abbrev pub Retires : {T : Type 0} → List ℕ → ℕ → Txn → Txn → Pages D g → Pages D g → Result T TreeError → Type 0
  Retires name number t u old new result = Writes (λ _. HasRetired name number t u old new) (RetireErr name number t old new) u old new result
