use Rattle.{std.{specs.{FinMap.{insert, put as put_entry}, Prelude.IfSome}, proofs.Common.{◌≡◌, ℕ, refl, sym, subst, ◌∙◌, ap}}, page_btree_gets.specs.Leading.CanLead}
use Rattle.{page_btree_gets.specs.{claim.{Errors.reach_in, Map.Holds}, node.claim.Places.key_cmp}, page_btree_puts.specs.{Fingers.IsReached, Fitting.IsLeafPut}}
use Rattle.{page_store.specs.claim.Transactions.{stored, txn_pages, txn_root, over, free_over}, sector_device.specs.claim.Disk.Image, page_btree_gets.proofs.Leads.can_lead}
use Rattle.{page_btree_gets.proofs.Outcomes.{reads_ok, refused_as, refused_after}, page_btree_puts.proofs.{Fits.{reach_failed, leaf_failed}, Leads.put_whole, Reach.leaf_edited}}
use Rattle.{page_btree_puts.proofs.Placed.{leaf_there, other_stays, row_stands, put_at}, page_store.proofs.Stops.passed_more}
use Rattle.page_btree_puts.proofs.fitting.put_fitting.Goals as goal

pub returns-in_err-reach_leaf-clause-reading : goal.returns-in_err-reach_leaf-clause-reading
returns-in_err-reach_leaf-clause-reading g c =
    let t = c.args.txn.now in
    let can = λ (S : Image). CanLead (txn_pages t) (over t S) c.args.key.now c.root-root.result in
    refused_as _ c.in_err-reach_leaf.ensures.reading c.from_residual.ensures.1 (reach_failed can c.args.finger.now t c.args.pages.now c.reach_leaf.new.pages (λ honest m holds.
    can_lead (txn_pages t) (over t (stored c.args.pages.now)) c.root-root.result (free_over t (stored c.args.pages.now)) m c.args.key.now (rw c.root-root.ensures.root holds) c.if-root-eq0.false) _)

pub returns-in_err-put_leaf-clause-reading : goal.returns-in_err-put_leaf-clause-reading
returns-in_err-put_leaf-clause-reading g c =
    let t = c.args.txn.now in
    let f = c.reach_leaf.new.finger in
    let S = stored c.args.pages.now in
    let first = c.in_ok-reach_leaf.ensures.reading.passed in
    let later = c.in_err-put_leaf.ensures.reading in
    refused_after _ first later c.from_residual-in_err-put_leaf.ensures.1 (leaf_failed c.args.finger.now f.page f.near c.args.key.now t _ _ _ first later.quiet (λ honest m holds stands.
    let before = later.quiet.honest honest in
    let reached = c.in_ok-reach_leaf.ensures.reached before stands in
    let leaf = leaf_there (txn_pages t) S t t c.root-root.result m c.in_ok-reach_leaf.ensures.few (rw c.root-root.ensures.root holds) c.if-root-eq0.false c.args.key.now f.page reached.leads in
    (leaf.0, rw (first.quiet.same before) leaf.1, leaf.2, reached.after leaf.0 leaf.1)) _)

pub returns-in-None-clause-reading : goal.returns-in-None-clause-reading
returns-in-None-clause-reading g c = reads_ok (passed_more _ _ _ c.in_ok-reach_leaf.ensures.reading.passed c.in_ok-put_leaf.ensures.reading.passed)

pub returns-in-Some-clause-reading : goal.returns-in-Some-clause-reading
returns-in-Some-clause-reading g c = reads_ok (passed_more _ _ _ c.in_ok-reach_leaf.ensures.reading.passed c.in_ok-put_leaf.ensures.reading.passed)

pub returns-in-Some-clause-put : goal.returns-in-Some-clause-put
returns-in-Some-clause-put g c = λ honest m holds stands.
    let S = stored c.args.pages.now in
    let t0 = c.args.txn.now in
    let t1 = c.put_leaf.new.txn in
    let n = txn_pages t0 in
    let root = c.root-root.result in
    let key = c.args.key.now in
    let value = c.args.value.now in
    let was = c.reach_leaf.new.finger in
    let leaf = was.page in
    let did = c.in-Some.put in
    let before = c.in_ok-put_leaf.ensures.reading.quiet.honest honest in
    let few = c.in_ok-reach_leaf.ensures.few in
    let some = c.if-root-eq0.false in
    let at_root : Holds n (over t0 S) root (free_over t0 S) m = subst (λ (r : ℕ). Holds n (over t0 S) r (free_over t0 S) m) (sym c.root-root.ensures.root) holds in
    let reached : IsReached t0 S root key was = c.in_ok-reach_leaf.ensures.reached before stands in
    let same_stored : stored c.reach_leaf.new.pages ≡ S = c.in_ok-reach_leaf.ensures.reading.quiet.same before in
    let root_is : root ≡ txn_root t1 = c.root-root.ensures.root ∙ sym c.in_ok-put_leaf.ensures.rooted.root in
    let put : IsLeafPut t0 t1 S leaf was.near key value did = subst (λ (T : Image). IsLeafPut t0 t1 T leaf was.near key value did) same_stored
    (subst (λ d. IfSome d (IsLeafPut t0 t1 (stored c.reach_leaf.new.pages) leaf was.near key value)) c.in-Some.is (c.in_ok-put_leaf.ensures.put honest)) in
    let there = leaf_there n S t0 t1 root m few at_root some key leaf reached.leads in
    let done = put there.0 there.1 there.2 (reached.after there.0 there.1) in
    let whole = put_whole n S t0 t1 key value did.had few leaf (put_at t0 t1 S leaf was.near key value did reached.after put) root m at_root some reached.leads in
    let rows = put_entry key_cmp key value there.0 in
    record {
      reads = subst (λ (k : ℕ). Holds k (over t1 S) (txn_root t1) (free_over t1 S) (insert m key value)) (sym c.in_ok-put_leaf.ensures.rooted.pages) (subst (λ (x : ℕ). Holds n (over t1 S) x (free_over t1 S) (insert m key value)) root_is whole.0);
      had_is = whole.1;
      stands = row_stands n S t0 t1 root m few at_root some leaf there.0 rows there.1 done.1 done.3 (record { page = was.page; low = c.set.new.self; reach = was.reach; near = did.near }) key refl c.set.ensures root_is reached.all done.2;
      others = λ _ other differs standing. other_stays n S t0 t1 root m few at_root some leaf there.0 rows there.1 done.1 done.3 other differs c.root-root.ensures.root root_is standing;
    }

pub returns-in-Some-clause-reach : goal.returns-in-Some-clause-reach
returns-in-Some-clause-reach g c = λ honest m holds stands.
    let S = stored c.args.pages.now in
    let t0 = c.args.txn.now in
    let t1 = c.put_leaf.new.txn in
    let n = txn_pages t0 in
    let root = c.root-root.result in
    let key = c.args.key.now in
    let value = c.args.value.now in
    let was = c.reach_leaf.new.finger in
    let leaf = was.page in
    let did = c.in-Some.put in
    let before = c.in_ok-put_leaf.ensures.reading.quiet.honest honest in
    let at_root : Holds n (over t0 S) root (free_over t0 S) m = subst (λ (r : ℕ). Holds n (over t0 S) r (free_over t0 S) m) (sym c.root-root.ensures.root) holds in
    let reached : IsReached t0 S root key was = c.in_ok-reach_leaf.ensures.reached before stands in
    let same_stored : stored c.reach_leaf.new.pages ≡ S = c.in_ok-reach_leaf.ensures.reading.quiet.same before in
    let put : IsLeafPut t0 t1 S leaf was.near key value did = subst (λ (T : Image). IsLeafPut t0 t1 T leaf was.near key value did) same_stored
    (subst (λ d. IfSome d (IsLeafPut t0 t1 (stored c.reach_leaf.new.pages) leaf was.near key value)) c.in-Some.is (c.in_ok-put_leaf.ensures.put honest)) in
    let there = leaf_there n S t0 t1 root m c.in_ok-reach_leaf.ensures.few at_root c.if-root-eq0.false key leaf reached.leads in
    let done = put there.0 there.1 there.2 (reached.after there.0 there.1) in
    ap (λ r. reach_in (over t1 S) r) c.in_ok-put_leaf.ensures.rooted.root
    ∙ leaf_edited (over t0 S) (over t1 S) (txn_root t0) leaf there.0 (put_entry key_cmp key value there.0) there.1 done.1 done.3
