use Rattle.{std.{specs.Prelude.{Ok, Err, is_some, ◌≤◌}, proofs.Common.{◌≡◌, sym, ap, ◌∙◌, arith, rules, subst}}, page_btree_gets.{specs.Errors.IsNoWant, proofs.Tops.no_root}}
use Rattle.{page_btree_gets.specs.{claim.Errors.{reach_in, top_reach}, declared.error.TreeError.TheVariants.TooDeep}, page_btree_puts.specs.{Errors.GrowErr, Outcomes.TakesNoPage}}
use Rattle.{page_btree_puts.{specs.Putting.CanPutSome, proofs.Counting.few_some_taken}, page_store.specs.claim.Transactions.{txn_pages, txn_root, over, free_over, stored}}
use Rattle.{page_btree_gets.proofs.Outcomes.{match_of, reads_ok, refused_as, refused_after, err_of}, page_btree_puts.proofs.Reach.first_rises, page_store.proofs.Stops.passed_more}
use Rattle.page_btree_puts.proofs.Failing.{first_failed, root_read_failed, place_failed, grow_failed}
use Rattle.page_btree_puts.proofs.FromRoot.{can_some, same_length, put_whole, free_then, put_grown, reach_whole, reach_grown, reach_tall}
use Rattle.page_btree_puts.proofs.puts.put_cutting.Goals as goal

-- ---- no root
pub returns-in_err-put_first-clause-reading : goal.returns-in_err-put_first-clause-reading
returns-in_err-put_first-clause-reading g c = refused_as _ c.in_err-put_first.ensures.reading c.from_residual.ensures.1 (first_failed c.args.txn.now c.args.pages.now c.put_first.new.pages _)

pub returns-in_err-put_first-clause-takes : goal.returns-in_err-put_first-clause-takes
returns-in_err-put_first-clause-takes g c =
    let fixed : TakesNoPage c.args.txn.now c.put_first.new.txn c.args.pages.now c.put_first.new.pages (c.args.key.now, c.args.value.now) (c.from_residual.result) = λ honest m held holds there same.
    absurd (cc (no_root _ _ _ _ m c.args.key.now holds (sym c.root-root.ensures.root ∙ c.if-root-eq0.true), there)) in
    search (rules, fixed)

pub returns-then-root-eq0-clause-put : goal.returns-then-root-eq0-clause-put
returns-then-root-eq0-clause-put g c = λ honest m holds.
    let zero_is : txn_root c.args.txn.now ≡ 0 = sym c.root-root.ensures.root ∙ c.if-root-eq0.true in
    (c.in_ok-put_first.ensures.put honest m zero_is holds, ap is_some (sym (no_root _ _ _ _ m c.args.key.now holds zero_is)))

pub returns-then-root-eq0-clause-takes : goal.returns-then-root-eq0-clause-takes
returns-then-root-eq0-clause-takes g c = search (rules, no_root)

-- ---- the root isn't read, or is none
pub returns-in_err-read-clause-reading : goal.returns-in_err-read-clause-reading
returns-in_err-read-clause-reading g c = refused_as _ c.in_err-read.ensures.reading c.from_residual-in_err-read.ensures.1 (λ why. (root_read_failed c.args.txn.now c.args.pages.now c.read.new.pages _ why).0)

pub returns-in_err-read-clause-takes : goal.returns-in_err-read-clause-takes
returns-in_err-read-clause-takes g c = search rules

pub returns-then-level-gt5-clause-reading : goal.returns-then-level-gt5-clause-reading
returns-then-level-gt5-clause-reading g c = search rules

-- ---- refused below
pub returns-in_err-placed-clause-reading : goal.returns-in_err-placed-clause-reading
returns-in_err-placed-clause-reading g c =
    let t = c.args.txn.now in
    let can = CanPutSome (txn_pages t) (over t) c.level_of-level.result (free_over t) c.root-root.result c.read.new.page c.args.key.now in
    let first = c.in_ok-read.ensures.reading.passed in
    let later = c.in_err-placed.ensures.reading in
    refused_after _ first later c.from_residual-in_err-placed.ensures.1 (place_failed c.level_of-level.result can t _ _ _ first later.quiet (omega (arith, c.if-level-gt5.false))
    (λ honest m holds. can_some c.args.txn.now c.args.pages.now c.read.new.pages c.root-root.result c.level_of-level.result c.read.new.page c.args.key.now c.root-root.ensures.root c.if-root-eq0.false c.read.ensures.reading.quiet c.in_ok-read.ensures.reads c.level_of-level.ensures.level (later.quiet.honest honest) m holds) _)

pub returns-in_err-placed-clause-takes : goal.returns-in_err-placed-clause-takes
returns-in_err-placed-clause-takes g c =
    let fixed : TakesNoPage c.args.txn.now c.put_at.new.txn c.args.pages.now c.put_at.new.pages (c.args.key.now, c.args.value.now) (c.from_residual-in_err-placed.result) = λ honest m held holds there same.
    match_of c.from_residual-in_err-placed.result _ _ IsNoWant c.from_residual-in_err-placed.ensures.1
    (same_length c.args.txn.now c.args.pages.now c.read.new.pages c.root-root.result c.level_of-level.result c.read.new.page c.args.key.now c.root-root.ensures.root c.if-root-eq0.false c.read.ensures.reading.quiet c.in_ok-read.ensures.reads c.level_of-level.ensures.level (c.put_at.ensures.reading.quiet.honest honest) m holds c.put_at.new.txn c.put_at.new.pages c.args.value.now held (Err c.in_err-placed.field-0.0) c.in_err-placed.ensures.fixed honest there same) in
    search (rules, fixed)

-- ---- nothing was cut
pub returns-in-None-clause-reading : goal.returns-in-None-clause-reading
returns-in-None-clause-reading g c = reads_ok (passed_more _ _ _ c.in_ok-read.ensures.reading.passed c.in_ok-placed.ensures.reading.passed)

pub returns-in-None-clause-put : goal.returns-in-None-clause-put
returns-in-None-clause-put g c = λ honest m holds.
    put_whole c.args.txn.now c.args.pages.now c.read.new.pages c.root-root.result c.level_of-level.result c.read.new.page c.args.key.now c.root-root.ensures.root c.if-root-eq0.false c.read.ensures.reading.quiet c.in_ok-read.ensures.reads c.level_of-level.ensures.level (c.put_at.ensures.reading.quiet.honest honest) m holds
    c.put_at.new.txn c.put_at.new.pages c.args.value.now c.in_ok-placed.placed c.put_at.new.room.upper c.in_ok-placed.ensures.put honest c.in-None.is c.put_at.ensures.stays.rooted.pages c.put_at.ensures.stays.rooted.root

pub returns-in-None-clause-takes : goal.returns-in-None-clause-takes
returns-in-None-clause-takes g c =
    let fixed : TakesNoPage c.args.txn.now c.put_at.new.txn c.args.pages.now c.put_at.new.pages (c.args.key.now, c.args.value.now) (Ok c.in_ok-placed.placed.had) = λ honest m held holds there same.
    (same_length c.args.txn.now c.args.pages.now c.read.new.pages c.root-root.result c.level_of-level.result c.read.new.page c.args.key.now c.root-root.ensures.root c.if-root-eq0.false c.read.ensures.reading.quiet c.in_ok-read.ensures.reads c.level_of-level.ensures.level (c.put_at.ensures.reading.quiet.honest honest) m holds c.put_at.new.txn c.put_at.new.pages c.args.value.now held (Ok c.in_ok-placed.placed) c.in_ok-placed.ensures.fixed honest there same).1 in
    search (rules, fixed)

-- ---- the root was cut
pub returns-in_err-grow-in-Some-clause-reading : goal.returns-in_err-grow-in-Some-clause-reading
returns-in_err-grow-in-Some-clause-reading g c =
    let t = c.args.txn.now in
    let level = c.level_of-level.result in
    let passed = passed_more _ _ _ c.in_ok-read.ensures.reading.passed c.in_ok-placed.ensures.reading.passed in
    let later = c.in_err-grow-in-Some.ensures.reading in
    refused_after _ passed later c.from_residual-in_err-grow-in-Some.ensures.1 (grow_failed level t c.put_at.new.txn _ _ _ passed later.quiet
    (few_some_taken level t c.put_at.new.txn c.in-Some.right c.in_ok-placed.placed.right c.in-Some.is c.in_ok-placed.ensures.few)
    (λ honest. search rules)
    (λ honest m holds.
    let middle = later.quiet.honest honest in
    free_then c.args.txn.now c.args.pages.now c.read.new.pages c.root-root.result c.level_of-level.result c.read.new.page c.args.key.now c.root-root.ensures.root c.if-root-eq0.false c.read.ensures.reading.quiet c.in_ok-read.ensures.reads c.level_of-level.ensures.level (c.put_at.ensures.reading.quiet.honest middle) m holds
    c.put_at.new.txn c.put_at.new.pages c.args.value.now c.in_ok-placed.placed c.put_at.new.room.upper c.in_ok-placed.ensures.put middle c.put_at.ensures.stays.rooted.pages c.put_at.ensures.reading.quiet) _)

pub returns-in_err-grow-in-Some-clause-takes : goal.returns-in_err-grow-in-Some-clause-takes
returns-in_err-grow-in-Some-clause-takes g c =
    let fixed : TakesNoPage c.args.txn.now c.grow.new.txn c.args.pages.now c.grow.new.pages (c.args.key.now, c.args.value.now) (c.from_residual-in_err-grow-in-Some.result) = λ honest m held holds there same.
    let middle = c.grow.ensures.reading.quiet.honest honest in
    absurd (cc ((same_length c.args.txn.now c.args.pages.now c.read.new.pages c.root-root.result c.level_of-level.result c.read.new.page c.args.key.now c.root-root.ensures.root c.if-root-eq0.false c.read.ensures.reading.quiet c.in_ok-read.ensures.reads c.level_of-level.ensures.level (c.put_at.ensures.reading.quiet.honest middle) m holds c.put_at.new.txn c.put_at.new.pages c.args.value.now held (Ok c.in_ok-placed.placed) c.in_ok-placed.ensures.fixed middle there same).0, c.in-Some.is)) in
    search (rules, fixed)

pub returns-in_ok-grow-in-Some-clause-reading : goal.returns-in_ok-grow-in-Some-clause-reading
returns-in_ok-grow-in-Some-clause-reading g c = reads_ok (passed_more _ _ _ c.in_ok-read.ensures.reading.passed (passed_more _ _ _ c.in_ok-placed.ensures.reading.passed c.in_ok-grow-in-Some.ensures.reading.passed))

pub returns-in_ok-grow-in-Some-clause-takes : goal.returns-in_ok-grow-in-Some-clause-takes
returns-in_ok-grow-in-Some-clause-takes g c =
    let fixed : TakesNoPage c.args.txn.now c.grow.new.txn c.args.pages.now c.grow.new.pages (c.args.key.now, c.args.value.now) (Ok c.in_ok-placed.placed.had) = λ honest m held holds there same.
    let middle = c.grow.ensures.reading.quiet.honest honest in
    absurd (cc ((same_length c.args.txn.now c.args.pages.now c.read.new.pages c.root-root.result c.level_of-level.result c.read.new.page c.args.key.now c.root-root.ensures.root c.if-root-eq0.false c.read.ensures.reading.quiet c.in_ok-read.ensures.reads c.level_of-level.ensures.level (c.put_at.ensures.reading.quiet.honest middle) m holds c.put_at.new.txn c.put_at.new.pages c.args.value.now held (Ok c.in_ok-placed.placed) c.in_ok-placed.ensures.fixed middle there same).0, c.in-Some.is)) in
    search (rules, fixed)

pub returns-in_ok-grow-in-Some-clause-put : goal.returns-in_ok-grow-in-Some-clause-put
returns-in_ok-grow-in-Some-clause-put g c = λ honest m holds.
    let middle = c.grow.ensures.reading.quiet.honest honest in
    put_grown c.args.txn.now c.args.pages.now c.read.new.pages c.root-root.result c.level_of-level.result c.read.new.page c.args.key.now c.root-root.ensures.root c.if-root-eq0.false c.read.ensures.reading.quiet c.in_ok-read.ensures.reads c.level_of-level.ensures.level (c.put_at.ensures.reading.quiet.honest middle) m holds
    c.put_at.new.txn c.put_at.new.pages c.args.value.now c.in_ok-placed.placed c.put_at.new.room.upper c.in_ok-placed.ensures.put middle c.grow.new.txn c.in-Some.right c.in-Some.is c.put_at.ensures.stays.rooted.pages c.grow.ensures.pages c.put_at.ensures.reading.quiet
    c.in_ok-grow-in-Some.ensures.few (c.in_ok-grow-in-Some.ensures.grown honest)

-- ---- how near the tree is to a seventh level
pub returns-then-root-eq0-clause-rises : goal.returns-then-root-eq0-clause-rises
returns-then-root-eq0-clause-rises g c = λ honest m holds.
    let S = stored c.args.pages.now in
    first_rises (over c.args.txn.now S) (over c.put_first.new.txn S) (txn_root c.args.txn.now) (txn_root c.put_first.new.txn) (sym c.root-root.ensures.root ∙ c.if-root-eq0.true) (c.in_ok-put_first.ensures.leaf S)

pub returns-in-None-clause-rises : goal.returns-in-None-clause-rises
returns-in-None-clause-rises g c = λ honest m holds.
    reach_whole c.args.txn.now c.args.pages.now c.read.new.pages c.root-root.result c.level_of-level.result c.read.new.page c.args.key.now c.root-root.ensures.root c.if-root-eq0.false c.read.ensures.reading.quiet c.in_ok-read.ensures.reads c.level_of-level.ensures.level (c.put_at.ensures.reading.quiet.honest honest) m holds
    c.put_at.new.txn c.put_at.new.pages c.args.value.now c.in_ok-placed.placed c.put_at.new.room.upper c.in_ok-placed.ensures.put honest c.in-None.is c.put_at.ensures.stays.rooted.root c.in_ok-placed.ensures.wide

pub returns-in_ok-grow-in-Some-clause-rises : goal.returns-in_ok-grow-in-Some-clause-rises
returns-in_ok-grow-in-Some-clause-rises g c = λ honest m holds.
    let middle = c.grow.ensures.reading.quiet.honest honest in
    reach_grown c.args.txn.now c.args.pages.now c.read.new.pages c.root-root.result c.level_of-level.result c.read.new.page c.args.key.now c.root-root.ensures.root c.if-root-eq0.false c.read.ensures.reading.quiet c.in_ok-read.ensures.reads c.level_of-level.ensures.level (c.put_at.ensures.reading.quiet.honest middle) m holds
    c.put_at.new.txn c.put_at.new.pages c.args.value.now c.in_ok-placed.placed c.put_at.new.room.upper c.in_ok-placed.ensures.put middle c.grow.new.txn c.in-Some.right c.in-Some.is c.put_at.ensures.stays.rooted.pages c.put_at.ensures.reading.quiet (c.in_ok-grow-in-Some.ensures.grown honest) c.in_ok-placed.ensures.wide

pub returns-in_err-grow-in-Some-clause-tall : goal.returns-in_err-grow-in-Some-clause-tall
returns-in_err-grow-in-Some-clause-tall g c = λ honest m holds.
    let middle = c.grow.ensures.reading.quiet.honest honest in
    let S = stored c.args.pages.now in
    let level = c.level_of-level.result in
    err_of c.from_residual-in_err-grow-in-Some.result c.in_err-grow-in-Some.field-0.0 (λ e. e ≡ TooDeep → top_reach ≤ reach_in (over c.args.txn.now S) (txn_root c.args.txn.now)) c.from_residual-in_err-grow-in-Some.ensures.1
    (λ deep. reach_tall c.args.txn.now c.args.pages.now c.read.new.pages c.root-root.result c.level_of-level.result c.read.new.page c.args.key.now c.root-root.ensures.root c.if-root-eq0.false c.read.ensures.reading.quiet c.in_ok-read.ensures.reads c.level_of-level.ensures.level (c.put_at.ensures.reading.quiet.honest middle) m holds
    c.put_at.new.txn c.put_at.new.pages c.args.value.now c.in_ok-placed.placed c.put_at.new.room.upper c.in_ok-placed.ensures.put middle c.in-Some.right c.in-Some.is (subst (λ e. GrowErr level c.put_at.new.txn c.put_at.new.pages c.grow.new.pages e) deep c.in_err-grow-in-Some.ensures.reading.err) c.in_ok-placed.ensures.wide)
