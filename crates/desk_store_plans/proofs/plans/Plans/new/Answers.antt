use Rattle.{std.proofs.Common.{[], refl, sym}, desk_store_plans.proofs.AsMap.{empty_of, len_of}}
use Rattle.desk_store_plans.proofs.plans.Plans.new.Goals as goal

pub invariant_of-result : goal.invariant_of-result
invariant_of-result c = record { rising = refl; count = sym (len_of [] refl) }

pub returns : goal.returns
returns c = empty_of
