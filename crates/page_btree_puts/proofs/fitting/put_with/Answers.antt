use Rattle.{std.{specs.{FinMap.{insert, contains_key}, Prelude.IfSome}, proofs.Common.{refl, ◌≡◌, ◌+◌, sym, subst, ◌∙◌, rules, ◌≤◌, arith}}, page_btree_gets.specs.Errors.IsNoWant}
use Rattle.{page_btree_gets.specs.{claim.{Errors.{reach_in, top_reach}, Map.InTxn}, declared.error.TreeError.TheVariants.TooDeep}, page_btree_puts.specs.Fingers.IsPutBy}
use Rattle.{page_store.specs.claim.Transactions.{stored, txn_free, txn_root, over}, page_btree_gets.proofs.{Editing.still_in, Outcomes.{map_ok, map_err, map_both, reads_after}}}
use Rattle.page_btree_puts.proofs.Fits.{put_failed_more, put_failed_alike, by_err}
use Rattle.page_btree_puts.proofs.fitting.put_with.Goals as goal

pub returns-in-Some-clause-put : goal.returns-in-Some-clause-put
returns-in-Some-clause-put g c = λ honest m holds stands.
    subst (λ d. IfSome d (λ had. IsPutBy c.put_fitting.new.finger c.args.txn.now c.put_fitting.new.txn (stored c.args.pages.now) m (c.args.key.now, c.args.value.now) had)) c.in-Some.is (c.in_ok-had.ensures.put honest m holds stands)

-- ---- nothing was changed
pub returns-in-None-clause-reading : goal.returns-in-None-clause-reading
returns-in-None-clause-reading g c =
    search (c.in_ok-had.ensures.reading.passed, c.put_cutting.ensures.reading, reads_after, by_err, put_failed_alike, c.in_ok-had.ensures.kept, put_failed_more)

pub returns-in-None-clause-put : goal.returns-in-None-clause-put
returns-in-None-clause-put g c = λ honest m holds stands.
    let same = c.put_fitting.ensures.reading.quiet.same (c.put_cutting.ensures.reading.quiet.honest honest) in
    map_ok c.put_cutting.result (λ had. InTxn c.put_cutting.new.txn (stored c.args.pages.now) (insert m c.args.key.now c.args.value.now) × (had ≡ contains_key m c.args.key.now)) (λ had. IsPutBy _ c.args.txn.now c.put_cutting.new.txn (stored c.args.pages.now) m (c.args.key.now, c.args.value.now) had)
    (λ had done. record { reads = done.0; had_is = done.1; stands = λ some. absurd (some refl); others = λ some. absurd (some refl) })
    (rw same at (c.put_cutting.ensures.put honest m (rw same (still_in c.args.txn.now c.put_fitting.new.txn (stored c.args.pages.now) m (c.in_ok-had.ensures.kept c.in-None.is) holds))))

pub returns-in-None-clause-takes : goal.returns-in-None-clause-takes
returns-in-None-clause-takes g c =
    let r = c.put_cutting.result in
    let t = c.args.txn.now in
    let u = c.put_fitting.new.txn in
    let v = c.put_cutting.new.txn in
    let takes = c.put_cutting.ensures.takes in
    let alike = c.in_ok-had.ensures.kept c.in-None.is in
    let free = alike.free in
    record {
      pages = search rules;
      costs = search rules;
      fixed = λ honest m held holds there same_length.
          let same = c.put_fitting.ensures.reading.quiet.same (c.put_cutting.ensures.reading.quiet.honest honest) in
          map_both r (λ _. txn_free v ≡ txn_free u) (λ _. txn_free v ≡ txn_free t) (λ e. IsNoWant e) (λ e. IsNoWant e) (λ had h. h ∙ free) (λ e h. h)
          (takes.fixed honest m held (rw same (still_in t u (stored c.args.pages.now) m alike holds)) there same_length);
      spent = search rules;
      deep = map_err r (λ e. e ≡ TooDeep → txn_free u ≡ txn_free v + 6) (λ e. e ≡ TooDeep → txn_free t ≡ txn_free v + 6) (λ e h is. sym free ∙ h is) takes.deep;
    }

-- ---- how near the tree is to a seventh level
pub returns-in-Some-clause-rises : goal.returns-in-Some-clause-rises
returns-in-Some-clause-rises g c = λ honest m holds stands.
    let S = stored c.args.pages.now in
    let t = c.args.txn.now in
    let u = c.put_fitting.new.txn in
    let same : reach_in (over u S) (txn_root u) ≡ reach_in (over t S) (txn_root t) = subst (λ d. IfSome d (λ _. reach_in (over u S) (txn_root u) ≡ reach_in (over t S) (txn_root t))) c.in-Some.is (c.in_ok-had.ensures.reach honest m holds stands) in
    omega (arith, same)

pub returns-in-None-clause-rises : goal.returns-in-None-clause-rises
returns-in-None-clause-rises g c = λ honest m holds stands.
    let S = stored c.args.pages.now in
    let t = c.args.txn.now in
    let u = c.put_fitting.new.txn in
    let v = c.put_cutting.new.txn in
    let alike = c.in_ok-had.ensures.kept c.in-None.is in
    let same = c.put_fitting.ensures.reading.quiet.same (c.put_cutting.ensures.reading.quiet.honest honest) in
    let reach : reach_in (over u S) (txn_root u) ≡ reach_in (over t S) (txn_root t) = λ i. reach_in (alike.over_is S i) (alike.root i) in
    map_ok c.put_cutting.result (λ _. reach_in (over v S) (txn_root v) ≤ reach_in (over u S) (txn_root u) + 1) (λ _. reach_in (over v S) (txn_root v) ≤ reach_in (over t S) (txn_root t) + 1)
    (λ _ more. omega (arith, reach, more))
    (rw same at (c.put_cutting.ensures.rises honest m (rw same (still_in t u S m alike holds))))

pub returns-in-None-clause-tall : goal.returns-in-None-clause-tall
returns-in-None-clause-tall g c = λ honest m holds.
    let S = stored c.args.pages.now in
    let t = c.args.txn.now in
    let u = c.put_fitting.new.txn in
    let alike = c.in_ok-had.ensures.kept c.in-None.is in
    let same = c.put_fitting.ensures.reading.quiet.same (c.put_cutting.ensures.reading.quiet.honest honest) in
    let reach : reach_in (over u S) (txn_root u) ≡ reach_in (over t S) (txn_root t) = λ i. reach_in (alike.over_is S i) (alike.root i) in
    map_err c.put_cutting.result (λ e. e ≡ TooDeep → top_reach ≤ reach_in (over u S) (txn_root u)) (λ e. e ≡ TooDeep → top_reach ≤ reach_in (over t S) (txn_root t))
    (λ e h is. let tall = h is in omega (arith, reach, tall))
    (rw same at (c.put_cutting.ensures.tall honest m (rw same (still_in t u S m alike holds))))
