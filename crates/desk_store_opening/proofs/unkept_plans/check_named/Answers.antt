use Rattle.{std.proofs.Common.{sym, ◌∙◌}, desk_store_opening.{specs.Checking.IsSizedRow, proofs.WholeDesks.with_also}, desk_store_pages.proofs.Looking.tells}
use Rattle.desk_store_opening.proofs.unkept_plans.check_named.Goals as goal

pub returns : goal.returns
returns g c =
    let plan = c.in-Some-read_plan.plan in
    tells c.check_revisions.result (with_also (λ _. IsSizedRow plan) c.check_revisions.result c.check_revisions.ensures.seen c.check_revisions.ensures.sized) (λ m _ is. record {
      name = c.in-Some._name;
      key = sym c.as_slice.ensures.bytes ∙ c.in-Some.ensures;
      plan = plan;
      fits = c.row_fits.ensures.number_fits;
      value = sym (c.in-Some-read_plan.ensures ∙ c.as_slice-2.ensures.bytes);
      sized = is.1;
      revisions = is.0;
    }) (λ m is. is)
