use Rattle.{std.proofs.Common.{refl, ap, ◌∙◌}, audit_report.{specs.claim.Report.not_asked_of, proofs.Reporting.named}}
use Rattle.audit_report.proofs.audit.assemble.Goals as goal

pub returns : goal.returns
returns c = λ g plan beside same taken pieces. record {
  broken = rw c.in_ok-broken.ensures (named g c.args.kind c.args.count plan beside.senate c.args.pieces taken.senate pieces.people pieces.unnested.nesting pieces.contiguity);
  cities = pieces.splits.cities;
  cities_in_county = pieces.splits.cities_in_county;
  congress = pieces.people.congress;
  contiguity = pieces.contiguity;
  counties = pieces.splits.counties;
  districts = refl;
  divided_by_congress = pieces.unnested.divided_by_congress;
  kind_is = refl;
  nesting = pieces.unnested.nesting;
  not_asked = c.in_ok-not_asked.ensures ∙ ap (not_asked_of c.args.kind) same;
  population = pieces.people.total;
  populations = pieces.people.populations;
  range = pieces.people.range;
  unassigned = pieces.people.unassigned;
}
