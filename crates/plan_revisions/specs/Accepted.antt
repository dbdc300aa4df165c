-- What a command that is accepted tells of the desk before it and after it.
use Rattle.std.proofs.Common.{◌≡◌, ◌<◌, ℕ, List, length, Some}
use Rattle.{desk_model.specs.claim.{Desk.{Plan, Desk}, Geography.GeographyModel, Step.revision_limit}, desk_store_pages.specs.claim.Desks.{AreWithin, IsWithinLimits}}
use Rattle.desk_store_rows.specs.Changes.{with_revision}
use Rattle.std.specs.FinMap as map_of

-- a plan got a revision more
pub record IsRevised (d : Desk) (name : List ℕ) (after : ℕ) (e : Desk) : Type 0 where
  pub g : GeographyModel
  pub plan : Plan
  pub districts : List ℕ
  pub geography : d.geography ≡ Some g
  pub there : map_of.get d.plans name ≡ Some plan
  pub count : after ≡ length plan.revisions
  pub few : length plan.revisions < revision_limit
  pub within : IsWithinLimits d → AreWithin plan.n districts
  pub desk : e ≡ record d { plans = map_of.insert d.plans name (with_revision plan districts) }
