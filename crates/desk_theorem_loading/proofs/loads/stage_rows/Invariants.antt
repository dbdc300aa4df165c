use Rattle.{std.proofs.Common.{◌≡◌, ◌+◌, ◌-◌, None}, desk_store.specs.{Loads.IsLast, claim.Clerks.desk_of, geo_tables.Loading.{geography_model_of, done_of}}}
use Rattle.{desk_store_rows.specs.claim.GeographyRows.geography_rows, desk_theorem_loading.specs.Loads.HasStaged}
use Rattle.desk_theorem_loading.proofs.loads.stage_rows.Given as goal

abbrev pub invariant-loop-left : goal.invariant-loop-left
invariant-loop-left g l = record {
  staged : HasStaged l.initial.clerk l.initial.load l.clerk l.load;
  last : IsLast l.clerk l.load;
  unsealed : (desk_of l.clerk).geography ≡ None;
  left : l.left + done_of l.load ≡ geography_rows (geography_model_of l.load);
  told : g.P.Progress.is_told l.progress (geography_rows (geography_model_of l.initial.load) - done_of l.initial.load);
}

abbrev pub decreases-loop-left : goal.decreases-loop-left
decreases-loop-left g l = l.left
