use Rattle.{std.{specs.FinMap.entries, proofs.Common.{◌≡◌, arith}}, btree_scan.proofs.RowsFound.first_none, desk_store_pages.proofs.Looking.looked}
use Rattle.plan_revisions_sweeps.proofs.{Least.{copied_at, leaf_next, leaf_none, leaf_some}, Scanned.not_got}
use Rattle.plan_revisions_sweeps.proofs.pieces.key_from.Goals as goal

pub returns-in_err-leaf_from : goal.returns-in_err-leaf_from
returns-in_err-leaf_from g c = not_got c.in_err-leaf_from.field-0.0 c.from_residual.result c.leaf_from.ensures.reading.quiet c.in_err-leaf_from.ensures.reading.err c.from_residual.ensures.1

pub returns-then-leaf-gt0 : goal.returns-then-leaf-gt0
returns-then-leaf-gt0 g c = copied_at c.args.key.now _ _ _ c.copy_key.result c.in_ok-leaf_from.ensures.reading.passed
    (λ honest m holds. leaf_some c.args.key.now (entries m) c.leaf_from.new.leaf c.leaf_from.new.held (c.in_ok-leaf_from.ensures.rows honest m holds) c.if-leaf-gt0.true) c.copy_key.ensures

pub returns-then-leaf-gt0-2 : goal.returns-then-leaf-gt0-2
returns-then-leaf-gt0-2 g c =
    let none : c.leaf_from.new.leaf.left ≡ 0 = omega arith in
    copied_at c.args.key.now _ _ _ c.copy_key-then-leaf-gt0-2.result c.in_ok-leaf_from.ensures.reading.passed
    (λ honest m holds. leaf_next c.args.key.now (entries m) c.leaf_from.new.leaf c.leaf_from.new.held (c.in_ok-leaf_from.ensures.rows honest m holds) none c.if-leaf-gt0-2.true) c.copy_key-then-leaf-gt0-2.ensures

pub returns : goal.returns
returns g c =
    let none : c.leaf_from.new.leaf.left ≡ 0 = omega arith in
    let no_more : c.leaf_from.new.leaf.more ≡ 0 = omega arith in
    looked c.in_ok-leaf_from.ensures.reading.passed (λ honest m holds.
    first_none m c.args.key.now (leaf_none c.args.key.now (entries m) c.leaf_from.new.leaf c.leaf_from.new.held (c.in_ok-leaf_from.ensures.rows honest m holds) none no_more))
