use Rattle.{std.{specs.FinMap.get as row_at, proofs.Common.{sym, ap, ◌∙◌, rules}}, desk_store_rows.specs.claim.Keys.seal, desk_store_pages.proofs.Looking.{fails, looks}}
use Rattle.desk_store_opening.proofs.marks.refuse_begun.Goals as goal

pub returns-in_err-found : goal.returns-in_err-found
returns-in_err-found g c = fails c.from_residual.result c.in_err-found.ensures c.from_residual.ensures.1 (λ m kept. (kept.value, kept.stands ∙ ap (row_at m) (sym c.seal.ensures)))

pub returns-in-None : goal.returns-in-None
returns-in-None g c = search rules

pub returns-in-Some : goal.returns-in-Some
returns-in-Some g c = looks c.in_ok-found.ensures c.refuse_row.result c.refuse_row.ensures
    (λ m _ found none. search rules)
    (λ m found kept. search rules)
