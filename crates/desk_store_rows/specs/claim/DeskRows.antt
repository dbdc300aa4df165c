-- The desk in a store.
use Rattle.std.specs.Prelude.{◌≡◌, ◌<◌, ◌≤◌, ◌+◌, ◌^◌, ℕ, List, [], length, get_or, Option, Some, None}
use Rattle.{desk_model.specs.claim.{Desk.{Desk, Plan}, Geography.GeographyModel, Name.IsPlanName, Ranges.cut}, desk_store_rows.specs.claim.{GeographyRows.IsGeography, Keys.named}}
use Rattle.desk_store_rows.specs.claim.{RevisionRows.HasRevision, Rows.{KeyMap, Has, Lacks}, Values.plan_bytes}
use Rattle.std.specs.FinMap as map_of

-- a desk keeps this many revisions of a plan at most
abbrev pub most_revisions : ℕ
most_revisions = 65535

-- the plan stands under its name with its number, and each of its revisions under that number
pub record HasPlan (m : KeyMap) (g : GeographyModel) (name : List ℕ) (number : ℕ) (p : Plan) : Type 0 where
  pub is_name : IsPlanName name
  pub number_fits : number < 2 ^ 64
  pub districts_fit : p.n < 2 ^ 16
  pub few : length p.revisions ≤ most_revisions
  pub row : Has m (named name) (plan_bytes (record { number = number; kind = p.kind; districts = p.n; revisions = length p.revisions }))
  pub whole : (k : ℕ) → k < length p.revisions → length (get_or p.revisions k []) ≡ length g.blocks
  pub revisions : (k : ℕ) → k < length p.revisions → HasRevision m number (k + 1) (cut g (get_or p.revisions k []))

-- the plan that stands under a name, or none; without a geography there is none
abbrev pub IsPlanAt : KeyMap → Option GeographyModel → List ℕ → Option Plan → Type 0
IsPlanAt m geography name None = Lacks m (named name)
IsPlanAt m None name (Some p) = ⊥
IsPlanAt m (Some g) name (Some p) = (number : ℕ) × HasPlan m g name number p

pub record IsDesk (m : KeyMap) (d : Desk) : Type 0 where
  pub geography : IsGeography m d.geography
  pub plans : (name : List ℕ) → IsPlanAt m d.geography name (map_of.get d.plans name)
