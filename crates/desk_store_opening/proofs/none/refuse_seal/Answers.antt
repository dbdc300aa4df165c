use Rattle.{std.{specs.FinMap.get, proofs.Common.{None, sym, ap, ◌∙◌}}, desk_store_pages.proofs.Looking.fails}
use Rattle.desk_store_opening.proofs.none.refuse_seal.Goals as goal

pub returns-in_err-found : goal.returns-in_err-found
returns-in_err-found g c = fails c.from_residual.result c.in_err-found.ensures c.from_residual.ensures.1 (λ m lacks. (None, sym (ap (get m) c.seal.ensures ∙ lacks)))
