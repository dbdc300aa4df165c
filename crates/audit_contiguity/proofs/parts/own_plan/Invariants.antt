use Rattle.{std.proofs.Common.{◌≡◌, map, take}, audit_contiguity.specs.Parts.kept}
use Rattle.audit_contiguity.proofs.parts.own_plan.Given as goal

abbrev pub invariant-loop-district : goal.invariant-loop-district
invariant-loop-district l = l.districts.items ≡ map (kept l.own) (take l.district-index l.plan)
