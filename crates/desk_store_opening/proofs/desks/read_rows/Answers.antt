use Rattle.{std.proofs.Common.{◌≡◌, Option, Some, sym, ap, subst, ◌∙◌}, desk_model.specs.{Ranges.ranges_of, claim.{Desk.Desk, Geography.GeographyModel}}}
use Rattle.{desk_store_opening.specs.Opening.{ArePlansShown, IsShown}, desk_store_pages.specs.Desks.new_desk, geo_tables.specs.Elements.IsGeographyRead}
use Rattle.{desk_store_opening.proofs.{PlanNumbers.none_counted, Shown.nothing_shown, WholeDesks.{is_new, are_plans, has_nothing, with_also}}, page_store.proofs.Stops.quiet_more}
use Rattle.desk_store_pages.proofs.Looking.{both, fails, fails_then, finds, gathered, looks, not_looked}
use Rattle.desk_store_opening.proofs.desks.read_rows.Goals as goal

pub returns-in_err-the_geography : goal.returns-in_err-the_geography
returns-in_err-the_geography g c = fails c.from_residual.result c.in_err-the_geography.ensures c.from_residual.ensures.1 (λ m is. (is.0.1.geography, is.1.desk.geography))

pub returns-in_default : goal.returns-in_default
returns-in_default g c = looks c.in_ok-the_geography.ensures c.read_none.result (with_also (λ (catalogue : Desk). catalogue ≡ new_desk) c.read_none.result (gathered _ c.read_none.ensures.looks) c.read_none.ensures.new)
    (λ m catalogue the_geography is. record {
      there = (nothing_shown m catalogue is.1 is.0, none_counted m c.args.counts.now c.requires.none is.0.plans);
      read = λ x said. is.1 ∙ is_new m x.1 said (sym c.in_default.is ∙ the_geography.read x.1.geography said.desk.geography);
    })
    (λ m the_geography is. has_nothing m is.0.1 is.1 (sym c.in_default.is ∙ the_geography.read is.0.1.geography is.1.desk.geography))

pub returns-in_err-plans : goal.returns-in_err-plans
returns-in_err-plans g c = fails_then c.in_ok-the_geography.ensures c.from_residual-in_err-plans.result c.in_err-plans.ensures.reads c.from_residual-in_err-plans.ensures.1 (λ m the_geography is.
    (is.0.1.plans, are_plans m is.0.1 is.1 c.in-Some.the_geography (sym c.in-Some.is ∙ the_geography.read is.0.1.geography is.1.desk.geography)))

pub returns-in-Ok : goal.returns-in-Ok
returns-in-Ok g c = finds (both c.in_ok-the_geography.ensures c.in_ok-plans.ensures.reads) (λ m is. record {
  there = (
    subst (λ (d : Desk). IsShown m d) (sym c.restored.ensures) (record {
      the_geography = subst (λ (x : Option GeographyModel). IsGeographyRead m x) (c.in-Some.is ∙ ap Some (sym c.in-Ok.ensures.ok)) is.0.there;
      plans = subst (λ (g : GeographyModel). ArePlansShown m (ranges_of g) c.in_ok-plans.plans) (sym c.in-Ok.ensures.ok) is.1.there.2;
      apart = is.1.there.0;
    }),
    is.1.there.1,
  );
  read = λ x said.
      let same : Some c.in-Some.the_geography ≡ x.1.geography = sym c.in-Some.is ∙ is.0.read x.1.geography said.desk.geography in
      let plans = is.1.read x.1.plans (are_plans m x.1 said c.in-Some.the_geography same) in
      c.restored.ensures ∙ (λ i. record { geography = (ap Some c.in-Ok.ensures.ok ∙ same) i; plans = plans i });
})

pub returns-in-Err : goal.returns-in-Err
returns-in-Err g c = not_looked (quiet_more c.args.pages.now c.geography.new.pages c.read_plans.new.pages c.geography.ensures.quiet c.in_ok-plans.ensures.reads.quiet) tt
