use Rattle.{std.{specs.FinMap.insert, proofs.Common.{◌≡◌, List, ℕ, sym, ap, ◌∙◌}}, desk_store_rows.specs.claim.{Keys.{key_of, named}, Values.plan_bytes}}
use Rattle.{desk_store_opening.proofs.NewPlans.{is_plan_row, same_name, value_told}, desk_store_pages.proofs.Looking.{not_looked, tells}, page_store.proofs.Stops.quiet_none}
use Rattle.desk_store_opening.proofs.rows.add_named.Goals as goal

pub returns-in_default-read_plan-clause-reads : goal.returns-in_default-read_plan-clause-reads
returns-in_default-read_plan-clause-reads g c = not_looked (quiet_none c.args.pages.now) (λ honest m holds is.
    let told = value_told c.args.geography.now c.args.plans.now c.args.row.now m is.0 is.1 in
    c.in_default-read_plan.ensures told.0 (told.1 ∙ sym c.as_slice-2.ensures.bytes))

pub returns-clause-reads : goal.returns-clause-reads
returns-clause-reads g c =
    let the_geography = c.args.geography.now in
    let plans = c.args.plans.now in
    let row = c.args.row.now in
    let name = c.in-Some.name in
    let read = c.in-Some-read_plan.plan in
    let key : row.key ≡ key_of (named name) = sym c.as_slice.ensures.bytes ∙ c.in-Some.ensures in
    let bytes : plan_bytes read ≡ row.value = c.in-Some-read_plan.ensures ∙ c.as_slice-2.ensures.bytes in
    tells c.add_plan.result c.add_plan.ensures.reads (λ m all is. record {
      there = record {
        added = record { name = name; plan = is.there.plan; number = read.number; key = key; fits = c.row_fits.ensures.number_fits; value = sym bytes ∙ ap plan_bytes is.there.of; is = is.there.is };
        revisions = is.there.revisions;
      };
      read = λ plan new.
          is.read plan.1 (is_plan_row the_geography plans row m plan new c.plans_are_told.ensures name read c.row_fits.ensures key bytes)
          ∙ ap (λ (n : List ℕ). insert plans n plan.1) (same_name the_geography plans row m plan new name key);
    }) (λ m is. (is.0.1, is_plan_row the_geography plans row m is.0 is.1 c.plans_are_told.ensures name read c.row_fits.ensures key bytes))
