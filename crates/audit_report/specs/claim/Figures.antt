-- What a report holds.
use Rattle.{std.specs.Prelude.{ℕ, List, Option}, audit_contiguity.specs.declared.breaks.Break.Break, audit_population.specs.declared.deviations.Extremes.Extremes}
use Rattle.{audit_report.specs.declared.clause.Clause.Clause, desk_model.specs.declared.kind.Kind.Kind}

pub record Figures : Type 0 where
  pub broken : List Clause
  pub cities : List ℕ
  pub cities_in_county : List ℕ
  pub congress : List ℕ
  pub contiguity : List Break
  pub counties : List ℕ
  pub districts : ℕ
  pub divided_by_congress : Option (List ℕ)
  pub kind : Kind
  pub nesting : List ℕ
  pub not_asked : List Clause
  pub population : ℕ
  pub populations : List ℕ
  pub range : Option Extremes
  pub unassigned : ℕ
