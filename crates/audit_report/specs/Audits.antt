-- What can be audited.
use Rattle.std.specs.Prelude.{◌≡◌, ℕ, List, length}
use Rattle.{audit_population.specs.Counts.IsCount, desk_model.specs.{Companions.{AreLong, AreTaken}, claim.Geography.GeographyModel, declared.companions.Companions.Companions}}
use Rattle.desk_model.specs.declared.kind.Kind.{Kind}

-- a plan of so many districts, with one or none for each block
pub record IsPlanOf (g : GeographyModel) (n : ℕ) (plan : List ℕ) : Type 0 where
  pub count : IsCount n
  pub beside : length plan ≡ length g.blocks

-- the plan, with companions that a plan of its kind takes, each of them with a district or none for each block
pub record IsAuditable (g : GeographyModel) (kind : Kind) (n : ℕ) (plan : List ℕ) (companions : Companions (List ℕ)) : Type 0 where
  pub plan_is : IsPlanOf g n plan
  pub companions_beside : AreLong (length g.blocks) companions
  pub companions_taken : AreTaken kind companions
