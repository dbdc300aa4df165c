use Rattle.{std.proofs.Common.{sym, subst, ◌∙◌, arith, rules}, desk_migration.specs.{Walks.Looks, declared.parts.PartLook.PartLook}}
use Rattle.desk_store_pages.proofs.Looking.{begins, both, fails_then, finds, not_looked}
use Rattle.desk_store_opening.proofs.tidy.After.{all_left}
use Rattle.desk_migration.proofs.walks.next_pair.Goals as goal

pub loop-taken-init : goal.loop-taken-init
loop-taken-init g c = search (c.requires.begun, c.requires.under, begins, all_left)

pub returns-in_err-look-clause-looks : goal.returns-in_err-look-clause-looks
returns-in_err-look-clause-looks g c = fails_then c.loop-taken.invariant.looked c.from_residual.result c.in_err-look.ensures.looks c.from_residual.ensures.1 (λ m was walking. walking.tidy)

pub returns-in-Ended-clause-looks : goal.returns-in-Ended-clause-looks
returns-in-Ended-clause-looks g c = finds (both c.loop-taken.invariant.looked c.in_ok-look.ensures.looks) (λ m is. (
  tt,
  λ walking.
      let now = is.1.1 (is.0 walking).0 in
      (now.0, subst (λ (l : PartLook). Looks l c.loop-taken.walk c.look.new.walk m) c.in-Ended.is now.1),
))

pub returns-in-Found-clause-looks : goal.returns-in-Found-clause-looks
returns-in-Found-clause-looks g c = finds (both c.loop-taken.invariant.looked c.in_ok-look.ensures.looks) (λ m is. (
  search (rules, c.in-Found.is),
  λ walking. search (rules, is.1.1, is.0, c.look.new.walk),
))

pub loop-taken-preserved : goal.loop-taken-preserved
loop-taken-preserved g c = record {
  begun = c.loop-taken.invariant.begun ∙ sym c.in_ok-look.ensures.looks.quiet.count;
  under = c.in_ok-look.ensures.under;
  looked = finds (both c.loop-taken.invariant.looked c.in_ok-look.ensures.looks) (λ m is walking.
      let was = is.0 walking in
      let now = is.1.1 was.0 in
      let few = was.1 in
      let less = subst (λ (l : PartLook). Looks l c.loop-taken.walk c.look.new.walk m) c.in-Passed.is now.1 in
      (now.0, omega arith));
}

pub returns-clause-looks : goal.returns-clause-looks
returns-clause-looks g c = search (rules, c.loop-taken.invariant.looked, not_looked)
