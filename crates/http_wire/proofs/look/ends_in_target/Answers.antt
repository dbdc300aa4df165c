use Rattle.{std.proofs.Common.rules, http_wire.proofs.TargetLemmas.{in_target_yes, in_target_no}}
use Rattle.http_wire.proofs.look.ends_in_target.Goals as goal

pub returns : goal.returns
returns c = search (rules, c.ends_after_blank.ensures, in_target_yes, in_target_no)
