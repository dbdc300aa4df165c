use Rattle.{std.proofs.Common.{arith, rules}, gal_text.{specs.Pairing.downward_pair, proofs.LinkLemmas.{more_kept, pushed, passed_over}}}
use Rattle.gal_text.proofs.links.downward.Goals as goal
use Rattle.gal_text.proofs.links.downward.Goals.{then-number+in_ok-push, else-number}

pub loop-link-preserved : goal.loop-link-preserved
loop-link-preserved c =
    let l = c.link-item.result in
    more_kept downward_pair c.args.links.now c.loop-link.link-index l _ _ (omega arith) c.link-item.is c.loop-link.invariant
    (elim c.if-number.branch [
      | then-number+in_ok-push w ↦ search (rules, c.number.ensures, c.number-in-loop-link.ensures, pushed)
      | else-number w ↦ search (rules, c.number.ensures, c.number-in-loop-link.ensures, passed_over)
    ])
