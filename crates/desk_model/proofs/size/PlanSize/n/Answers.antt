use Rattle.{std.proofs.Common.{◌≤◌, arith}, desk_model.specs.{claim.Sizes.most_districts, declared.kind.Kind.Kind}}
use Rattle.desk_model.proofs.size.PlanSize.n.Goals as goal

few : (kind : Kind) → most_districts kind ≤ 999
few kind = search arith

pub returns-clause-most : goal.returns-clause-most
returns-clause-most c = let most : most_districts c.args.self.0 ≤ 999 = few c.args.self.0 in omega arith
