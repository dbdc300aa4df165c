use Rattle.{std.{specs.FinMap.get, proofs.Common.{sym, ap, subst, ◌∙◌}}, desk_store_pages.specs.Reading.StandsAs, desk_store_rows.specs.claim.Values.plan_bytes}
use Rattle.desk_store_pages.proofs.Looking.{tells}
use Rattle.plan_revisions.proofs.plan_reads.find_plan.Goals as goal

pub returns : goal.returns
returns g c = tells c.get_row.result c.get_row.ensures (λ m found is. is ∙ ap (get m) c.named.ensures)
    (λ m is. (is.0, subst (λ k. StandsAs plan_bytes k m is.0) (sym c.named.ensures) is.1))
