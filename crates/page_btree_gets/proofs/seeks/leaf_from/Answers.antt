use Rattle.{std.{specs.Prelude.{Some, None}, proofs.Common.{◌≡◌, ◌<◌, ⊎_elim, cond, ap, arith}}, page_btree_gets.{specs.Seeking.bound_in, proofs.Refusals.get_more}}
use Rattle.page_btree_gets.proofs.{Following.{from_found, from_after, some_after}, Outcomes.{reads_ok, reads_err, refused_after}}
use Rattle.page_store.proofs.Stops.{quiet_more, passed_more}
use Rattle.page_btree_gets.proofs.seeks.leaf_from.Goals as goal

pub returns-then-leaf-gt0-clause-rows : goal.returns-then-leaf-gt0-clause-rows
returns-then-leaf-gt0-clause-rows g c = λ honest m holds. from_found _ _ _ _ m _ _ _ holds c.in_ok-leaf_for.ensures.bare (c.in_ok-leaf_for.ensures.read honest m) (λ none alone. absurd (omega arith))

pub returns-then-leaf-gt0-2-clause-rows : goal.returns-then-leaf-gt0-2-clause-rows
returns-then-leaf-gt0-2-clause-rows g c = λ honest m holds. from_found _ _ _ _ m _ _ _ holds c.in_ok-leaf_for.ensures.bare (c.in_ok-leaf_for.ensures.read honest m) (λ none alone. absurd (omega arith))

pub returns-then-not-leaf-clause-rows : goal.returns-then-not-leaf-clause-rows
returns-then-not-leaf-clause-rows g c =
    λ honest m holds. search (c.leaf_for.new.leaf, c.if-not-leaf.true, from_found, c.in_ok-leaf_for.ensures.bare, c.in_ok-leaf_for.ensures.read honest m)

pub returns-in_err-leaf_after-clause-reading : goal.returns-in_err-leaf_after-clause-reading
returns-in_err-leaf_after-clause-reading g c =
    let first = c.in_ok-leaf_for.ensures.reading.passed in
    refused_after _ first c.in_err-leaf_after.ensures.reading c.from_residual-in_err-leaf_after.ensures.1 (get_more c.args.txn.now _ _ _ first c.in_err-leaf_after.ensures.reading.quiet _)

pub returns-then-leaf-eq0-clause-reading : goal.returns-then-leaf-eq0-clause-reading
returns-then-leaf-eq0-clause-reading g c = reads_err (quiet_more _ _ _ c.in_ok-leaf_for.ensures.reading.quiet c.in_ok-leaf_after.ensures.reading.quiet) (λ honest m holds.
    let alone : c.leaf_for.new.leaf.more ≡ 0 = let few = c.if-leaf-gt0-2.false in omega arith in
    let bound : bound_in c.leaf_for.new.leaf ≡ Some c.leaf_for.new.leaf.bound = ap (λ b. cond b (Some c.leaf_for.new.leaf.bound) None) c.if-not-leaf.false in
    let before = c.in_ok-leaf_after.ensures.reading.quiet.honest honest in
    let read = rw (c.in_ok-leaf_for.ensures.reading.quiet.same before) at (c.in_ok-leaf_after.ensures.read honest) in
    ⊎_elim
    (λ bare. cc ((c.in_ok-leaf_for.ensures.bare bare.root_is).3))
    (λ r. let some = some_after _ _ _ _ m r _ _ _ _ _ _ (c.in_ok-leaf_for.ensures.read before m r) alone bound (read m r) in omega arith)
    holds.held)

pub returns-clause-reading : goal.returns-clause-reading
returns-clause-reading g c = reads_ok (passed_more c.args.pages.now c.leaf_for.new.pages c.leaf_after.new.pages c.in_ok-leaf_for.ensures.reading.passed c.in_ok-leaf_after.ensures.reading.passed)

pub returns-clause-rows : goal.returns-clause-rows
returns-clause-rows g c = λ honest m holds.
    let none : c.leaf_for.new.leaf.left ≡ 0 = let few = c.if-leaf-gt0.false in omega arith in
    let alone : c.leaf_for.new.leaf.more ≡ 0 = let few = c.if-leaf-gt0-2.false in omega arith in
    let bound : bound_in c.leaf_for.new.leaf ≡ Some c.leaf_for.new.leaf.bound = ap (λ b. cond b (Some c.leaf_for.new.leaf.bound) None) c.if-not-leaf.false in
    let before = c.in_ok-leaf_after.ensures.reading.quiet.honest honest in
    let read = rw (c.in_ok-leaf_for.ensures.reading.quiet.same before) at (c.in_ok-leaf_after.ensures.read honest) in
    let some : 0 < c.leaf_after.new.leaf.left = let not = c.if-leaf-eq0.false in omega arith in
    ⊎_elim
    (λ bare. cc ((c.in_ok-leaf_for.ensures.bare bare.root_is).3))
    (λ r. from_after _ _ _ _ m r _ _ _ _ _ _ (c.in_ok-leaf_for.ensures.read before m r) none alone bound (read m r) some)
    holds.held
