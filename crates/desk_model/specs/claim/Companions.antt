-- Which plans a plan is audited beside.
use Rattle.{std.specs.Prelude.{Bool, true, false, None}, desk_model.specs.declared.{companions.Companions.Companions, kind.Kind.{Kind, TheVariants.{Congress, Senate, House}}}}

-- a plan of the kind takes that companion: house districts lie in senate districts (Iowa Code 42.4(6)), and of both it is told which a plan
-- for the congress divides
abbrev pub takes : (beside kind : Kind) → Bool
takes Congress Congress = false
takes Congress Senate = true
takes Congress House = true
takes Senate Congress = false
takes Senate Senate = false
takes Senate House = true
takes House kind = false

abbrev pub is_kind : (asked kind : Kind) → Bool
is_kind Congress Congress = true
is_kind Congress Senate = false
is_kind Congress House = false
is_kind Senate Congress = false
is_kind Senate Senate = true
is_kind Senate House = false
is_kind House Congress = false
is_kind House Senate = false
is_kind House House = true

abbrev pub no_companions : {X : Type 0} → Companions X
no_companions = record { senate = None; congress = None }
