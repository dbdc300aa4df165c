-- A law of reports.
use Rattle.std.specs.Prelude.{◌≡◌, ℕ, List}
use Rattle.{audit_report.specs.claim.{Figures.Figures, Report.IsReport}, desk_model.specs.{claim.Geography.GeographyModel, declared.companions.Companions.Companions}}
use Rattle.desk_model.specs.declared.kind.Kind.{Kind}

-- a plan has one report
abbrev pub ReportIsOne : Type 0
ReportIsOne =
    (g : GeographyModel) (kind : Kind) (n : ℕ) (plan : List ℕ) (beside : Companions (List ℕ)) (one other : Figures) → IsReport g kind n plan beside one
    → IsReport g kind n plan beside other → one ≡ other
