-- What no promise rests on, beside claim/Companions.antt.
use Rattle.std.specs.{Borrow.Bor, Option.option_copied, Prelude.{◌≡◌, ℕ, IsTrue, List, length, Option, IfSome, IsSome}}
use Rattle.desk_model.specs.{claim.Companions.takes, declared.{companions.Companions.Companions, kind.Kind.{Kind, TheVariants.{Congress, Senate}}}}

-- the companions after references
abbrev pub companions_at : {X : Type 0} → (senate congress : Option (Bor X)) → Companions X
companions_at senate congress = record { senate = option_copied senate; congress = option_copied congress }

abbrev pub companions_copied : {X : Type 0} → Companions (Bor X) → Companions X
companions_copied beside = companions_at beside.senate beside.congress

-- each companion that there is has a district for each of so many blocks
pub record AreLong (blocks : ℕ) (beside : Companions (List ℕ)) : Type 0 where
  pub senate : IfSome beside.senate (λ districts. length districts ≡ blocks)
  pub congress : IfSome beside.congress (λ districts. length districts ≡ blocks)

-- a plan of the kind takes each companion that there is
pub record AreTaken (kind : Kind) (beside : Companions (List ℕ)) : Type 0 where
  pub senate : IsSome beside.senate → IsTrue (takes Senate kind)
  pub congress : IsSome beside.congress → IsTrue (takes Congress kind)
