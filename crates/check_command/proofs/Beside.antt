-- What is known of a companion's districts.
use Rattle.std.{specs.{Borrow.Bor, Option.option_copied}, proofs.Common.{◌≡◌, ℕ, List, length, Option, Some, None, is_some, IfSome, Vec, Global, refl}}
use Rattle.state_files.specs.claim.PlanFiles.{beside}

pub copied_same : {X : Type 0} (o : Option (Bor X)) → is_some (option_copied o) ≡ is_some o
copied_same None = refl
copied_same (Some x) = refl

-- there is a district for each block
pub is_long : (blocks : ℕ) (told : Option (List ℕ)) (companion : Option (Vec ℕ Global)) → told ≡ beside companion
    → IfSome companion (λ plan. length plan.items ≡ blocks) → IfSome told (λ districts. length districts ≡ blocks)
is_long blocks told None is long = rw is long
is_long blocks told (Some plan) is long = rw is long
