-- A remove that edits a leaf alone, told above.
use Rattle.{std.specs.Prelude.{Bool, true, false, Result, Option, Some, None, IfOk, IfSome, MatchOption}, gate_journal.specs.Writes.IsEdited, page_btree_gets.specs.Leading.LeadsTo}
use Rattle.{std.proofs.Common.{rules, ◌≡◌, ℕ, List, Ok, Err, refl, sym, subst, ◌∙◌, ◌<◌, ◌≤◌, ◌-◌, ◌^◌, zero, suc, Bool, ap, arith}, page_btree_gets.specs.Getting.ReadsErr}
use Rattle.page_btree_gets.specs.{Editing.{IsAlike, LeafErr}, claim.{Errors.RemoveErr, Keys.KeyMap, Map.InTxn, Tree.{Tree, rows}}, declared.error.TreeError.TreeError}
use Rattle.{page_btree_gets.specs.node.{Spots.IsSpareTaken, claim.{Entries.Entry, Node.IsNode, Places.Rises}}, page_btree_removes.specs.Sparing.{TakesRow, IsLeafTaken}}
use Rattle.page_btree_removes.specs.{Removing.{CanRemove, RemovesAt, Removes, BelowErr}, declared.removes.Removed.{Removed, TheVariants.{Absent, Kept}}}
use Rattle.page_store.specs.{Transactions.{txn_list, IsWritten}, claim.{Chain.{IsIn, AreFree}, Transactions.{stored, disk_in, over, free_over, IsQuiet, Passed}}}
use Rattle.{page_store.{specs.declared.{pages.Pages.Pages, txn.Txn.Txn}, proofs.Stops.failed_more}, sector_device.specs.{claim.Disk.Image, declared.SectorDevice.Ghosts}}
use Rattle.{gate_journal.proofs.Images.{put_on, put_off}, page_btree_gets.proofs.{Editing.still_in, Refusals.by_case, Rising.tree_rises}}
use Rattle.page_btree_removes.proofs.Steps.{StepsDown, at_leaf, leaf_kept, leaf_there, step_down}

abbrev pub did_take : Bool → Removed
did_take true = Kept
did_take false = Absent

-- ---- at a leaf
pub leaf_takes : (n : ℕ) (S : Image) (t0 t1 : Txn) (d : ℕ) (key : List ℕ) (p : ℕ) (can : CanRemove n (over t0 S) (free_over t0 S) d key p) → d ≡ 0 → (had : Bool) → IsLeafTaken t0 t1 S p key had → Removes (over t1 S) (free_over t1 S) can (did_take had)
leaf_takes n S t0 t1 d key p can none false told = let l = leaf_there n (over t0 S) (free_over t0 S) d key p can none in told (rows can.tree) l.0 l.1
leaf_takes n S t0 t1 d key p can none true told =
    let l = leaf_there n (over t0 S) (free_over t0 S) d key p can none in
    at_leaf n (over t0 S) (free_over t0 S) can.low can.high p (λ k t. TakesRow t0 t1 S p key (rows t) true → RemovesAt n (over t0 S) (over t1 S) k can.low can.high (free_over t0 S) (free_over t1 S) key t Kept)
    (leaf_kept n S t0 t1 can.low can.high key p can.free_are) d can.tree none can.tree_is can.page_is can.sound (told (rows can.tree) l.0 l.1)

-- in its place
pub leaf_taken : {E : Type 0} (told : Option (Result (Option Bool) E)) (A : Type 0) (step : List ℕ → Result (Option Bool) E → List ℕ → Type 0) (t0 t1 : Txn) (page : ℕ) (key : List ℕ)
    → MatchOption told A (λ r. IsWritten t0 page × IsEdited step r (txn_list t0) (txn_list t1) page)
    → ((P : Image) (n : ℕ) → AreFree n (free_over t0 P) → (IsIn page (free_over t0 P) → ⊥) → free_over t1 P ≡ free_over t0 P)
    → ((a b : List ℕ) (r : Result (Option Bool) E) → step a r b → (es : List Entry) → IsNode a (record { level = 0; entries = es }) → Rises es → IfOk r (λ did. IsSpareTaken a b key es did))
    → IfSome told (λ r. IfOk r (λ did. IfSome did (λ had. (S : Image) → IsLeafTaken t0 t1 S page key had)))
leaf_taken (Some (Ok (Some false))) A step t0 t1 page key edited free steps = λ S es is rises.
    let e = edited.1 in
    (steps e.before e.after _ e.steps es (subst (λ b. IsNode b (record { level = 0; entries = es })) (e.before_is S) is) rises).1
leaf_taken (Some (Ok (Some true))) A step t0 t1 page key edited free steps = λ S es is rises.
    let e = edited.1 in
    let done = steps e.before e.after _ e.steps es (subst (λ b. IsNode b (record { level = 0; entries = es })) (e.before_is S) is) rises in
    let there : over t1 S page ≡ e.after = e.put_is S page ∙ put_on (page, e.after) (over t0 S) page refl in
    (done.0, done.1, done.3, rw there done.2, λ q off. e.put_is S q ∙ put_off (page, e.after) (over t0 S) q off, free S)
leaf_taken _ A step t0 t1 page key edited free steps = tt

-- ---- above the leaves
pub steps_up : (n : ℕ) (S : Image) (t0 : Txn) (d : ℕ) (low : List ℕ) (high : Option (List ℕ)) (key : List ℕ) (p child : ℕ) (t : Tree) (s : StepsDown n S t0 d low high key p child t) (t1 : Txn) (had : Bool) → Removes (over t1 S) (free_over t1 S) s.can (did_take had)
    → RemovesAt n (over t0 S) (over t1 S) d low high (free_over t0 S) (free_over t1 S) key t (did_take had)
steps_up n S t0 d low high key p child t s t1 true done = s.kept t1 done
steps_up n S t0 d low high key p child t s t1 false done = s.absent done

-- ---- by the way down to it
pub removes_there : (n : ℕ) (S : Image) (t0 t1 : Txn) (key : List ℕ) (had : Bool) → n ≤ 2 ^ 32 → (leaf : ℕ) → IsLeafTaken t0 t1 S leaf key had → (d page : ℕ) → LeadsTo (over t0 S) d page key leaf
    → (can : CanRemove n (over t0 S) (free_over t0 S) d key page) → Removes (over t1 S) (free_over t1 S) can (did_take had)
removes_there n S t0 t1 key had few leaf did zero page is can = leaf_takes n S t0 t1 0 key page can refl had (subst (λ (q : ℕ). IsLeafTaken t0 t1 S q key had) is did)
removes_there n S t0 t1 key had few leaf did (suc d) page (child, told, rest) can =
    let some : 0 < suc d = omega arith in
    let e : d ≡ suc d - 1 = omega arith in
    let step = step_down n S t0 (suc d) key page child can some few (λ node at. told node at (tree_rises (over t0 S) (suc d) can.low can.high can.tree (over t0 S page) can.tree_is (ap (over t0 S) (sym can.page_is)) some node at)) in
    steps_up n S t0 (suc d) can.low can.high key page child can.tree step t1 had
    (subst (λ (x : ℕ). (is : CanRemove n (over t0 S) (free_over t0 S) x key child) → Removes (over t1 S) (free_over t1 S) is (did_take had)) e (λ is. removes_there n S t0 t1 key had few leaf did d child rest is) step.can)

-- ---- what is told
pub top_some : {E : Type 0} (r : Result (Option Bool) E) (A B : Bool → Type 0) (C : Type 0) → (A true → B true) → (A false → C → B false) → IfOk r (λ d. IfSome d A) → IfOk r (λ d. (d ≡ Some true → ⊥) → C) → IfOk r (λ d. IfSome d B)
top_some (Ok (Some true)) A B C f g a k = f a
top_some (Ok (Some false)) A B C f g a k = g a (k (λ e. cc))
top_some _ A B C f g a k = tt

pub none_only : {E : Type 0} (r : Result (Option Bool) E) (C : Type 0) → IfOk r (λ d. (d ≡ Some true → ⊥) → C) → IfOk r (λ d. d ≡ None → C)
none_only (Ok (Some b)) C k = λ none. cc
none_only (Ok None) C k = λ none. k (λ e. cc)
none_only (Err e) C k = tt

-- ---- refusals
module _ {D : Type 0} {g : Ghosts D} where
  pub leaf_fails : (can : Image → Type 0) (page : ℕ) (t : Txn) (old new : Pages D g) → ((disk_in new).is_honest → can (stored old) → (es : List Entry) × IsNode (over t (stored old) page) (record { level = 0; entries = es }) × Rises es)
      → (e : TreeError) → LeafErr page t old new e → BelowErr can old new e
  leaf_fails can page t old new has = search rules

  -- a call after one that left the transaction alike
  pub remove_failed_more : (t u : Txn) (old mid new : Pages D g) → IsAlike t u → Passed old mid → IsQuiet mid new → (e : TreeError) → RemoveErr u mid new e → RemoveErr t old new e
  remove_failed_more t u old mid new alike passed quiet = by_case (λ e. RemoveErr u mid new e) (λ e. RemoveErr t old new e)
      (failed_more old mid new passed quiet) (λ why honest m is. why honest m (subst (λ T. InTxn u T m) (sym (passed.quiet.same (quiet.honest honest))) (still_in t u (stored old) m alike is))) (λ why. sym passed.halted ∙ why) (λ why. why) (λ why. why) (λ _. tt)

  pub reads_remove : (can : Image → Type 0) (t : Txn) (old new : Pages D g) → ((disk_in new).is_honest → (m : KeyMap) → InTxn t (stored old) m → can (stored old)) → (e : TreeError) → ReadsErr can old new e → RemoveErr t old new e
  reads_remove can t old new has = by_case (λ e. ReadsErr can old new e) (λ e. RemoveErr t old new e)
      (λ why. why) (λ why honest m is. why honest (has honest m is)) (λ why. why) (λ why. absurd why) (λ why. absurd why) (λ why. absurd why)
