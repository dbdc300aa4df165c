use Rattle.{std.proofs.Common.{◌+◌, List, ℕ, length, ap, sym, ◌∙◌, arith, below_more}, desk_store_opening.specs.Checking.IsRevisionSeen}
use Rattle.desk_store_pages.proofs.Looking.{begins, both, fails_then, finds}
use Rattle.desk_store_opening.proofs.unkept_revisions.check_revisions.Goals as goal

pub loop-before-init : goal.loop-before-init
loop-before-init g c = record {
  checks = begins (λ m holds. (
    λ county named inside. let none = ap (λ (l : List ℕ). length l) c.new-last.ensures.items in absurd (omega arith),
    λ k less. absurd (omega arith),
  ));
  begun = c.requires.begun;
}

pub returns-in_err-check_revision-clause-seen : goal.returns-in_err-check_revision-clause-seen
returns-in_err-check_revision-clause-seen g c = fails_then c.loop-before.invariant.checks c.from_residual.result c.in_err-check_revision.ensures c.from_residual.ensures.1 (λ m _ is. is)

pub loop-before-preserved : goal.loop-before-preserved
loop-before-preserved g c =
    let row = c.args.row.now in
    let ranges = c.args.ranges.now in
    let before = c.loop-before.before in
    record {
      checks = finds (both c.loop-before.invariant.checks c.in_ok-check_revision.ensures) (λ m is. (
        is.1.1 is.0.0,
        below_more (λ k. IsRevisionSeen row.districts row.number (k + 1) ranges m) before is.0.1 (record { numbers = c.check_revision.new.last.items; parts = is.1.0; chunks = is.1.1 is.0.0 }),
      ));
      begun = c.loop-before.invariant.begun ∙ sym c.in_ok-check_revision.ensures.quiet.count;
    }

pub returns-clause-seen : goal.returns-clause-seen
returns-clause-seen g c = finds c.loop-before.invariant.checks (λ m is k less. is.1 k (omega arith))
