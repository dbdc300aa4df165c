-- Pages that ran out.
use Rattle.{std.specs.Prelude.{◌≡◌, Result, IfErr}, page_btree.specs.gets.declared.error.TreeError.{TreeError, TheVariants.NoPages}, page_store.specs.claim.Transactions.txn_free}
use Rattle.{page_store.specs.declared.txn.Txn.Txn, plan_revisions.specs.PlanChanging.UntilFull}

-- pages that ran out, beside what a change came to
pub until_full : {T outcome : Type 0} {u : Txn} {r : Result T TreeError} → outcome → IfErr r (λ e. e ≡ NoPages → txn_free u ≡ 0) → UntilFull outcome u r
until_full did exhausted = record { did = did; exhausted = exhausted }
