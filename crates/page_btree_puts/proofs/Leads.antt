-- A put into the leaf that a key belongs to, told above.
use Rattle.{std.specs.{FinMap.{insert, contains_key, find, put}, Prelude.{Option, None, is_some}}, page_btree_gets.specs.{Getting.CanGetAt, Leading.LeadsTo, claim.Keys.KeyMap}}
use Rattle.{std.proofs.Common.{rules, ◌≡◌, ◌≢◌, ◌<◌, ◌≤◌, ◌-◌, ◌^◌, ℕ, zero, suc, List, [], Bool, refl, subst, arith, sym, ap, ◌∙◌}, page_btree_gets.specs.claim.Tree.Tree}
use Rattle.page_btree_gets.specs.{claim.Map.{Holds, IsRooted}, node.{Searching.RisesAfter, claim.{Entries.Entry, Node.{Node, IsNode}, Places.{key_cmp, Rises}}}}
use Rattle.{page_btree_puts.specs.Putting.{IsRaised, IsWhole, CanPut}, page_store.specs.{claim.{Chain.{IsIn, AreFree}, Transactions.{over, free_over}}, declared.txn.Txn.Txn}}
use Rattle.{sector_device.specs.claim.Disk.Image, page_btree_gets.proofs.{Rising.tree_rises, Tops.{rooted, can_get, at_root}}, page_btree_puts.proofs.Down.step_down}
use Rattle.page_btree_puts.proofs.{Leaves.{leaf_rows, leaf_node, leaf_rises, leaf_off, leaf_raised}, Roots.{rooted as has_root, root_can, after_whole}}

-- a leaf without rows, where a node says nothing
abbrev nothing : Node
nothing = record { level = 0; entries = [] }

-- the keys of a node above the leaves, into which a row is put, rise after the first
put_rises : (n : ℕ) (P : Image) (d : ℕ) (low : List ℕ) (high : Option (List ℕ)) (free : List ℕ) (page : ℕ) (bytes key : List ℕ) (t : Tree) → CanPut n P d low high free page bytes key t → 0 < d → (node : Node) → IsNode bytes node → RisesAfter node.entries
put_rises n P d low high free page bytes key t can some node is = tree_rises P d low high t bytes can.stands.tree_is (can.reads ∙ sym (ap P can.stands.page_is)) some node is

-- a row was put into the leaf at a page, where there is one
abbrev pub IsPutAt : Txn → Txn → Image → ℕ → List ℕ → List ℕ → Bool → Type 0
IsPutAt t0 t1 S page key value had =
    (es : List Entry) → IsNode (over t0 S page) (record { level = 0; entries = es }) → Rises es → (n : ℕ) → AreFree n (free_over t0 S) → (IsIn page (free_over t0 S) → ⊥)
    → (had ≡ is_some (find key_cmp key es)) × IsWhole (over t0 S) (over t1 S) (free_over t0 S) (free_over t1 S) page (record { level = 0; entries = put key_cmp key value es })

module _ (n : ℕ) (S : Image) (t0 t1 : Txn) (key value : List ℕ) (had : Bool) (few : n ≤ 2 ^ 32) (leaf : ℕ) (did : IsPutAt t0 t1 S leaf key value had) where
  raised_there : (d : ℕ) (low : List ℕ) (high : Option (List ℕ)) (page : ℕ) (t : Tree) → LeadsTo (over t0 S) d page key leaf → CanPut n (over t0 S) d low high (free_over t0 S) page (over t0 S page) key t → (k : List ℕ)
      → IsRaised (over t0 S) (over t1 S) d low high (free_over t0 S) (free_over t1 S) key value had k page t None nothing
  raised_there zero low high page t is can k =
      let w : IsPutAt t0 t1 S page key value had = subst (λ (q : ℕ). IsPutAt t0 t1 S q key value had) is did in
      leaf_raised _ _ _ _ _ _ _ _ _ t refl can (over t1 S) (free_over t1 S) value had None nothing
      (w (leaf_rows _ _ _ _ _ _ _ _ _ t refl can) (leaf_node _ _ _ _ _ _ _ _ _ t refl can) (leaf_rises _ _ _ _ _ _ _ _ _ t refl can) n can.free_are (leaf_off _ _ _ _ _ _ _ _ _ t refl can)) k
  raised_there (suc d) low high page t (child, told, rest) can k =
      let P = over t0 S in
      let some : 0 < suc d = omega arith in
      let e : d ≡ suc d - 1 = omega arith in
      let step = step_down _ _ _ _ _ _ _ _ _ value t child few can (omega arith) (λ node at. told node at (put_rises _ _ _ _ _ _ _ _ _ t can some node at)) in
      let below = subst (λ (x : ℕ). (l : List ℕ) (h : Option (List ℕ)) (u : Tree) → CanPut n P x l h (free_over t0 S) child (P child) key u → (k : List ℕ) → IsRaised P (over t1 S) x l h (free_over t0 S) (free_over t1 S) key value had k child u None nothing) e
      (λ l h u below k. raised_there d l h child u rest below k) in
      step.kept (over t1 S) (free_over t1 S) had None nothing (below step.its_low step.its_high step.its (step.can (P child) refl)) refl nothing k

  -- at the root
  module _ (root : ℕ) (m : KeyMap) (holds : Holds n (over t0 S) root (free_over t0 S) m) (some : root ≢ 0) where
    r : IsRooted n (over t0 S) root (free_over t0 S) m
    r = rooted n (over t0 S) root (free_over t0 S) m holds some

    level_is : (node : Node) → IsNode (over t0 S root) node → r.level ≡ node.level
    level_is node at = search rules

    pub put_whole : ((d : ℕ) → CanGetAt n (over t0 S) d key root → LeadsTo (over t0 S) d root key leaf) → Holds n (over t1 S) root (free_over t1 S) (insert m key value) × (had ≡ contains_key m key)
    put_whole leads =
        let P = over t0 S in
        let is : CanGetAt n P r.level key root = (can_get _ _ _ _ m r key (P root) r.level refl refl, at_root _ _ _ _ m r r.level refl) in
        after_whole _ _ _ _ m key (P root) r.level holds some refl level_is (over t1 S) (free_over t1 S) value had None nothing
        (raised_there r.level [] None root (has_root _ _ _ _ m key (P root) r.level holds some refl level_is).tree (leads r.level is) (root_can _ _ _ _ m key (P root) r.level holds some refl level_is) []) refl
