use Rattle.{std.{specs.FinMap.remove, proofs.Common.{◌≡◌, ◌≤◌, ◌+◌, ℕ, List, [], refl, ◌∙◌, arith, ◌∷◌, rules, sym}}, desk_store_pages.specs.claim.Puts.{HasPut, PutsErr}}
use Rattle.{desk_store_rows.specs.claim.{Keys.{key_of, named, retired}, Rows.KeyMap}, page_btree.specs.{gets.claim.{Errors.RemoveErr, Map.InTxn}, removes.Outcomes.IsNoNearer}}
use Rattle.{page_btree.specs.gets.declared.error.TreeError.{TreeError, TheVariants.{NotAStore, TooDeep}}, page_store.specs.declared.{pages.Pages.Pages, txn.Txn.Txn}}
use Rattle.{page_store.specs.claim.Transactions.{stored, disk_in, txn_pages, txn_root, txn_free, txn_writes, over, IsQuiet, Passed}, desk_store_pages.proofs.Outcomes.match_of}
use Rattle.{plan_revisions.{specs.claim.{Outcomes.{HasRetired, RetireErr}, PlanRows.retired_rows}, proofs.Exhausting.until_full}, sector_device.specs.declared.SectorDevice.Ghosts}
use Rattle.{desk_store_pages.proofs.Writing.puts_as, page_store.proofs.Stops.{passed_more, failed_more}}
use Rattle.plan_revisions_sweeps.proofs.chunk_table.Changed.{deep_after, near_before}
use Rattle.plan_revisions_sweeps.proofs.chunk_table.Writing.{after_reads, writes_as}
use Rattle.plan_revisions.proofs.changes.retire_plan.Goals as goal

-- A plan's row is removed, and then its number is marked.
module _ {D : Type 0} {g : Ghosts D} (name : List ℕ) (number : ℕ) (t u : Txn) (a b c : Pages D g) (passed : Passed a b)
    (removed : (disk_in b).is_honest → (m : KeyMap) → InTxn t (stored a) m → InTxn u (stored a) (remove m (key_of (named name)))) (thin : (disk_in b).is_honest → (m : KeyMap) → InTxn t (stored a) m → IsNoNearer (over t (stored a)) (txn_root t) (over u (stored a)) (txn_root u)) where
  -- what the transaction reads between the two
  half_way : (disk_in b).is_honest → (m : KeyMap) → InTxn t (stored a) m → InTxn u (stored b) (remove m (key_of (named name)))
  half_way honest m holds = rw (passed.quiet.same honest) (removed honest m holds)

  plan_gone : (v : Txn) → txn_pages u ≡ txn_pages t → txn_writes u ≤ txn_writes t + 6 → txn_free t ≤ txn_free u → HasPut (retired_rows number) u v b c → HasRetired name number t v a c
  plan_gone v pages writes given put = record {
    passed = passed_more a b c passed put.passed;
    pages = put.pages ∙ pages;
    retired = λ honest m holds.
        let before = put.passed.quiet.honest honest in
        rw (passed.quiet.same before) at (put.put honest (remove m (key_of (named name))) (half_way before m holds));
    writes = let more = put.writes in omega arith;
    taken = let more = put.taken in omega arith;
  }

  plan_not_gone : (e : TreeError) → txn_free t ≤ txn_free u → IsQuiet b c → PutsErr (retired_rows number) u b c e → RetireErr name number t a c e
  plan_not_gone NotAStore given quiet why = λ honest m holds. why honest (remove m (key_of (named name))) (half_way (quiet.honest honest) m holds)
  plan_not_gone TooDeep given quiet why = λ honest m holds.
      let n = remove m (key_of (named name)) in
      let before = quiet.honest honest in
      let both = why honest n (half_way before m holds) in
      let less = thin before m holds in (
        deep_after [] (retired_rows number) t u a b n n (passed.quiet.same before) refl both.0,
        near_before 0 1 t u a b (passed.quiet.same before) (omega (arith, less)) both.1,
      )
  plan_not_gone _ given quiet why = search (arith, failed_more)

-- the plan's row isn't removed
row_not_gone : {D : Type 0} {g : Ghosts D} (name : List ℕ) (number : ℕ) (t : Txn) (a b : Pages D g) (e : TreeError) → RemoveErr t a b e → RetireErr name number t a b e
row_not_gone name number t a b e why = search (arith)

pub returns-in_err-remove : goal.returns-in_err-remove
returns-in_err-remove g c =
    let quiet = c.in_err-remove.ensures.reading.quiet in
    until_full (record { quiet = quiet; begun = c.in_err-remove.ensures.pages ∙ c.requires.begun ∙ sym quiet.count; put = search (rules, match_of, row_not_gone) }) (search rules)

pub returns : goal.returns
returns g c =
    let name = c.args.name.now in
    let number = c.args.number in
    let t = c.args.txn.now in
    let u = c.remove.new.txn in
    let a = c.args.pages.now in
    let b = c.remove.new.pages in
    let d = c.put_row.new.pages in
    let did = c.in_ok-remove.ensures in
    let key_is : c.as_slice.result.now ≡ key_of (named name) = c.as_slice.ensures.bytes ∙ c.named-key.ensures in
    let removed = λ (honest : (disk_in b).is_honest) (m : KeyMap) (holds : InTxn t (stored a) m). rw key_is at (did.remove honest m holds).0 in
    let thin = λ (honest : (disk_in b).is_honest) (m : KeyMap) (holds : InTxn t (stored a) m). (did.remove honest m holds).2 in
    until_full (writes_as c.put_row.result (after_reads c.put_row.result did.reading.quiet (puts_as (λ i. (c.retired.ensures i, []) ∷ []) c.put_row.ensures.puts))
    (λ _ put. plan_gone name number t u a b d did.reading.passed removed thin c.put_row.new.txn did.pages did.costs.writes did.costs.given put)
    (λ e why. plan_not_gone name number t u a b d did.reading.passed removed thin e did.costs.given why.0 why.1)) (search rules)
