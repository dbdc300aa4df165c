use Rattle.{std.{specs.{FinMap.{contains_key, remove as remove_key}, Prelude.IfSome}, proofs.Common.{◌≡◌, ◌≤◌, ◌+◌, subst, arith, rules, ℕ}}, page_btree_gets.specs.claim.Map.InTxn}
use Rattle.{page_btree_removes.specs.Outcomes.IsNoNearer, page_store.specs.claim.Transactions.{stored, txn_free, txn_writes, txn_root, over}, sector_device.specs.claim.Disk.Image}
use Rattle.{page_btree_gets.proofs.{Editing.still_in, Outcomes.{map_ok, reads_after}}, page_btree_removes.proofs.Spares.remove_failed_more}
use Rattle.page_btree_removes.proofs.takes.remove.Goals as goal

pub returns-in-Some : goal.returns-in-Some
returns-in-Some g c = record {
  reading = search rules;
  pages = search rules;
  remove = λ honest m holds.
      subst (λ d. IfSome d (λ had. InTxn c.take_spare.new.txn (stored c.args.pages.now) (remove_key m c.args.key.now) × (had ≡ contains_key m c.args.key.now) × IsNoNearer (over c.args.txn.now (stored c.args.pages.now)) (txn_root c.args.txn.now) (over c.take_spare.new.txn (stored c.args.pages.now)) (txn_root c.take_spare.new.txn))) c.in-Some.is (c.in_ok-had.ensures.remove honest m holds);
  costs = search rules;
}

-- ---- nothing was changed
pub returns-in-None : goal.returns-in-None
returns-in-None g c =
    let t = c.args.txn.now in
    let u = c.take_spare.new.txn in
    let first = c.in_ok-had.ensures.reading.passed in
    let later = c.remove_through.ensures in
    let alike = c.in_ok-had.ensures.kept c.in-None.is in
    let writes = alike.writes in
    record {
      reading = reads_after first later.reading (remove_failed_more t u _ _ _ alike first later.reading.quiet);
      pages = search rules;
      remove = λ honest m holds.
          let same = first.quiet.same (later.reading.quiet.honest honest) in
          let S = stored c.args.pages.now in
          let v = c.remove_through.new.txn in
          let key = c.args.key.now in
          map_ok c.remove_through.result (λ had. InTxn v S (remove_key m key) × (had ≡ contains_key m key) × IsNoNearer (over u S) (txn_root u) (over v S) (txn_root v)) (λ had. InTxn v S (remove_key m key) × (had ≡ contains_key m key) × IsNoNearer (over t S) (txn_root t) (over v S) (txn_root v))
          (λ had did. (did.0, did.1, subst (λ (x : Image × ℕ). IsNoNearer x.0 x.1 (over v S) (txn_root v)) (λ i. (alike.over_is S i, alike.root i)) did.2))
          (rw same at (later.remove honest m (rw same (still_in t u S m alike holds))));
      costs = record {
        writes = map_ok c.remove_through.result (λ _. txn_writes c.remove_through.new.txn ≤ txn_writes u + 6) (λ _. txn_writes c.remove_through.new.txn ≤ txn_writes t + 6) (λ had h. omega arith) later.costs.writes;
        given = map_ok c.remove_through.result (λ _. txn_free u ≤ txn_free c.remove_through.new.txn) (λ _. txn_free t ≤ txn_free c.remove_through.new.txn) (λ had h. omega arith) later.costs.given;
        most = map_ok c.remove_through.result (λ _. txn_free c.remove_through.new.txn ≤ txn_free u + 6) (λ _. txn_free c.remove_through.new.txn ≤ txn_free t + 6) (λ had h. omega arith) later.costs.most;
      };
    }
