use Rattle.desk_store_pages.proofs.Looking.{fails, finds, looks}
use Rattle.store_verification_rows.proofs.namings.is_named.Goals as goal

pub returns-in_err-is_named_first : goal.returns-in_err-is_named_first
returns-in_err-is_named_first g c = fails c.from_residual.result c.in_err-is_named_first.ensures c.from_residual.ensures.1 (λ m any. any)

pub returns-then-branch : goal.returns-then-branch
returns-then-branch g c = finds c.in_ok-is_named_first.ensures (λ m found was. ((found was).0, (found was).1 c.if-branch.true))

pub returns : goal.returns
returns g c = looks c.in_ok-is_named_first.ensures c.find_naming.result c.find_naming.ensures (λ m is found named was. ((found was).0, named)) (λ m found any. any)
