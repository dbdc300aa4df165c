use Rattle.std.{specs.{FinMap.{contains_key, remove as remove_key}, Prelude.{IfOk, IfSome, Some, true, false}}, proofs.Common.{◌≡◌, List, refl, sym, subst, ◌∙◌, ℕ, [], None}}
use Rattle.page_btree_gets.{specs.{Editing.IsAlike, Leading.CanLead, claim.Map.{Holds, InTxn}, node.claim.{Entries.Entry, Node.IsNode, Places.Rises}}, proofs.Editing.still_in}
use Rattle.{page_btree_removes.specs.{Outcomes.IsNoNearer, Sparing.IsLeafTaken}, page_store.specs.claim.Transactions.{stored, txn_pages, txn_root, over, free_over}}
use Rattle.{sector_device.specs.claim.Disk.Image, page_btree_gets.proofs.{Leads.{can_lead, leads_leaf}, Outcomes.{refused_as, reads_after}, Tops.{rooted, can_get, at_root}}}
use Rattle.page_btree_removes.proofs.{Lefts.{can_remove, absent_same, had_none, had_after, kept_holds, holds_at, thinner_kept, thinner_alike}, Refusals.remove_fails}
use Rattle.page_btree_removes.proofs.Spares.{removes_there, reads_remove, top_some, none_only, leaf_fails}
use Rattle.page_btree_removes.proofs.takes.take_spare.Goals as goal

pub returns-in_err-leaf-clause-reading : goal.returns-in_err-leaf-clause-reading
returns-in_err-leaf-clause-reading g c =
    let t = c.args.txn.now in
    let can = λ (S : Image). CanLead (txn_pages t) (over t S) c.args.key.now c.root-root.result in
    refused_as _ c.in_err-leaf.ensures.reading c.from_residual.ensures.1 (reads_remove can t c.args.pages.now c.find_leaf.new.pages (λ honest m holds.
    can_lead (txn_pages t) (over t (stored c.args.pages.now)) c.root-root.result (free_over t (stored c.args.pages.now)) m c.args.key.now (rw c.root-root.ensures.root holds) c.if-root-eq0.false) _)

pub returns-clause-reading : goal.returns-clause-reading
returns-clause-reading g c =
    let t = c.args.txn.now in
    let leaf = c.in_ok-leaf.leaf in
    let can : Image → Type 0 = λ T. (es : List Entry) × IsNode (over t T leaf) (record { level = 0; entries = es }) × Rises es in
    let first = c.in_ok-leaf.ensures.reading.passed in
    let later = c.take_leaf.ensures.reading in
    reads_after first later (λ e why. remove_fails can t _ _ _ first later.quiet (λ honest m holds.
    let before = later.quiet.honest honest in
    let lead = can_lead (txn_pages t) (over t (stored c.args.pages.now)) c.root-root.result (free_over t (stored c.args.pages.now)) m c.args.key.now (rw c.root-root.ensures.root holds) c.if-root-eq0.false in
    rw (first.quiet.same before) (leads_leaf _ _ lead.0 _ _ leaf c.find_leaf.ensures.few lead.2.0 (c.in_ok-leaf.ensures.leads before lead.0 lead.2)))
    e (leaf_fails can leaf t c.find_leaf.new.pages c.take_leaf.new.pages (λ honest is. is) e why))

pub returns-clause-kept : goal.returns-clause-kept
returns-clause-kept g c = none_only c.take_leaf.result (IsAlike c.args.txn.now c.take_leaf.new.txn) c.take_leaf.ensures.kept

pub returns-clause-remove : goal.returns-clause-remove
returns-clause-remove g c = λ honest m holds.
    let S = stored c.args.pages.now in
    let t0 = c.args.txn.now in
    let t1 = c.take_leaf.new.txn in
    let key = c.args.key.now in
    let root = c.root-root.result in
    let leaf = c.in_ok-leaf.leaf in
    let before = c.take_leaf.ensures.reading.quiet.honest honest in
    let at : Holds (txn_pages t0) (over t0 S) root (free_over t0 S) m = rw c.root-root.ensures.root holds in
    let r = rooted _ _ _ _ m at c.if-root-eq0.false in
    let can = can_remove _ _ _ _ m r key r.level root at.free_are refl refl in
    let leads = c.in_ok-leaf.ensures.leads before r.level (can_get _ _ _ _ m r key (over t0 S root) r.level refl refl, at_root _ _ _ _ m r r.level refl) in
    let same_stored : stored c.find_leaf.new.pages ≡ S = c.find_leaf.ensures.reading.quiet.same before in
    let root_is : txn_root t1 ≡ root = c.take_leaf.ensures.rooted.root ∙ sym c.root-root.ensures.root in
    top_some c.take_leaf.result
    (IsLeafTaken t0 t1 S leaf key)
    (λ had. InTxn t1 S (remove_key m key) × (had ≡ contains_key m key) × IsNoNearer (over t0 S) (txn_root t0) (over t1 S) (txn_root t1))
    (IsAlike t0 t1)
    (λ w.
    let gone = removes_there _ S t0 t1 key true c.find_leaf.ensures.few leaf w r.level root leads can in
    let kept = kept_holds _ _ _ _ m key r _ _ at.free_are r.level gone.0 refl gone.1 in (
      holds_at _ _ _ _ _ _ _ _ _ c.take_leaf.ensures.rooted.pages refl root_is refl kept,
      sym (had_after _ _ _ _ m key r _ _ at.free_are r.level (Some gone.0) gone.1),
      subst (λ (x : ℕ). IsNoNearer (over t0 S) x (over t1 S) (txn_root t1)) c.root-root.ensures.root
          (thinner_kept (txn_pages t0) (over t0 S) root (free_over t0 S) m r (over t1 S) (txn_root t1) r.level [] None gone.0 refl root_is gone.1.stands.0 gone.1.stands.2 gone.2),
    ))
    (λ w alike.
    let gone = removes_there _ S t0 t1 key false c.find_leaf.ensures.few leaf w r.level root leads can in (
      still_in t0 t1 S (remove_key m key) alike (subst (λ k. InTxn t0 S k) (sym (absent_same _ _ _ _ m key r gone)) holds),
      sym (had_none _ _ _ _ m key r gone),
      thinner_alike t0 t1 S alike,
    ))
    (subst (λ (T : Image). IfOk c.take_leaf.result (λ did. IfSome did (IsLeafTaken t0 t1 T leaf key))) same_stored (c.take_leaf.ensures.taken honest)) c.take_leaf.ensures.kept
