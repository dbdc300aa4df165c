-- The children of a tree that could be walked.
use Rattle.{std.specs.Prelude.Option, page_btree_checks.{specs.{Order.{lower_of, upper_of, next_key, AreParts, IsOrdered}, declared.marks.Marks.Marks}, proofs.Named.can_still}}
use Rattle.std.proofs.Common.{rules, ◌≡◌, ◌<◌, ◌≤◌, ◌+◌, ◌-◌, ◌^◌, ℕ, zero, suc, List, [], ◌∷◌, length, drop, get_or, inr, refl, sym, ap, subst, ◌∙◌, arith, add-one, length-drop}
use Rattle.{page_btree_checks.{specs.Owners.{CanName, AreNamed, HasLevel, IsWalked, AreWalkedFrom, CanWalk}, proofs.Trees.drop_next}, page_btree_gets.specs.claim.Keys.Parts}
use Rattle.page_btree_gets.specs.claim.Tree.{Tree, Forest, leaf, inner, one, more, page_of, first_key, links, owns, forest_owns, IsTree, AreTrees, IsApart, AreApart}
use Rattle.{page_btree_gets.specs.node.{Entries.{key_at, value_at}, claim.{Entries.{Entry, child_bytes}, Node.{Node, IsNode}}}, sector_device.specs.claim.Disk.Image}
use Rattle.page_btree_gets.proofs.{Descent.{owns_page, some_links, key_of_links}, MapLaws.{page_is, one_tree}}
use Rattle.page_btree_gets.proofs.node.Laws.{node_unique}

-- ---- what a tree says of its page
pub can_level : (P : Image) (d : ℕ) (low : List ℕ) (high : Option (List ℕ)) (p : ℕ) (old : Marks) → CanWalk P d low high p old → HasLevel (P p) d
can_level P d low high p old can = search rules

pub can_name_root : (P : Image) (d : ℕ) (low : List ℕ) (high : Option (List ℕ)) (p : ℕ) (old : Marks) → CanWalk P d low high p old → CanName p old
can_name_root P d low high p old can = can.fresh p (subst (owns can.tree) can.page_is (owns_page can.tree))

-- ---- its keys

lower_links : (f : Forest) (k : ℕ) → lower_of (first_key f) (links f) k ≡ key_at (links f) k
lower_links f zero = sym (key_of_links f)
lower_links f (suc k) = refl

parts_of : (P : Image) (d : ℕ) (low : List ℕ) (high : Option (List ℕ)) (f : Forest) → AreTrees P d low high f → (k : ℕ) → suc k < length (links f) → Parts (lower_of low (links f) k) high (key_at (links f) (suc k))
parts_of P d low high (one key t) trees k lt = absurd (omega arith)
parts_of P d low high (more key t f) trees zero lt = subst (λ (x : List ℕ). Parts low high x) (sym (key_of_links f)) trees.1
parts_of P d low high (more key t f) trees (suc k) lt = subst (λ (x : List ℕ). Parts x high (key_at (links f) (suc k))) (lower_links f k) (parts_of P d (first_key f) high f trees.2 k (omega arith))

ordered_tree : (P : Image) (d : ℕ) (low : List ℕ) (high : Option (List ℕ)) (t : Tree) → IsTree P d low high t → (node : Node) → IsNode (P (page_of t)) node → IsOrdered low high d node.entries
ordered_tree P d low high (leaf p es) is node at =
    let same : es ≡ node.entries = ap (λ (n : Node). n.entries) (node_unique (P p) (record { level = 0; entries = es }) node is.1.node at) in
    search rules
ordered_tree P zero low high (inner p f) is node at = absurd (let some = is.0 in omega arith)
ordered_tree P (suc d) low high (inner p f) is node at =
    let same : links f ≡ node.entries = ap (λ (n : Node). n.entries) (node_unique (P p) (record { level = suc d; entries = links f }) node is.1 at) in
    subst (λ (l : List Entry). AreParts low high l) same (record { some = some_links f; parts = parts_of P (suc d - 1) low high f is.2 })

pub can_order : (P : Image) (d : ℕ) (low : List ℕ) (high : Option (List ℕ)) (p : ℕ) (old : Marks) → CanWalk P d low high p old → (node : Node) → IsNode (P p) node → IsOrdered low high d node.entries
can_order P d low high p old can node at = ordered_tree P d low high can.tree can.stands node (subst (λ q. IsNode (P q) node) (sym can.page_is) at)

-- ---- its children
-- trees stand at them, none of whose pages was named
pub record CanWalkAll (P : Image) (d : ℕ) (low : List ℕ) (high : Option (List ℕ)) (es : List Entry) (old : Marks) : Type 0 where
  pub forest : Forest
  pub stand : AreTrees P d low high forest
  pub links_are : links forest ≡ es
  pub apart : AreApart forest
  pub fresh : (q : ℕ) → forest_owns forest q → CanName q old

can_walk_tree : (P : Image) (d : ℕ) (low : List ℕ) (high : Option (List ℕ)) (t : Tree) (old new : Marks) (node : Node) → (d ≡ 0 → ⊥) → AreNamed (λ q. q ≡ page_of t) 1 old new → IsTree P d low high t → IsApart t → ((q : ℕ) → owns t q → CanName q old)
    → IsNode (P (page_of t)) node → CanWalkAll P (d - 1) low high node.entries new
can_walk_tree P d low high (leaf p es) old new node off named is apart fresh at = absurd (off is.0)
can_walk_tree P d low high (inner p f) old new node off named is apart fresh at =
    let links_are = ap (λ (n : Node). n.entries) (node_unique (P p) (record { level = d; entries = links f }) node is.1 at) in
    let still : (q : ℕ) → forest_owns f q → CanName q new = λ q own. can_still (λ q. q ≡ p) 1 q old new named (λ e. apart.0 (subst (forest_owns f) e own)) (fresh q (inr own)) in
    search rules

pub can_walk_all : (P : Image) (d : ℕ) (low : List ℕ) (high : Option (List ℕ)) (p : ℕ) (old new : Marks) (node : Node) → (d ≡ 0 → ⊥) → AreNamed (λ q. q ≡ p) 1 old new → IsNode (P p) node → CanWalk P d low high p old → CanWalkAll P (d - 1) low high node.entries new
can_walk_all P d low high p old new node off named at can = search (rules, can_walk_tree)

-- ---- the first of them, and those after it
module _ (P : Image) (d : ℕ) (low : List ℕ) (high : Option (List ℕ)) (e : Entry) (es : List Entry) (c : ℕ) (old : Marks) (small : length old.seen.items ≤ 2 ^ 32) (fits : c < 2 ^ 32) (at : child_bytes c ≡ e.1) where
  its_page : (t : Tree) → ((q : ℕ) → owns t q → CanName q old) → child_bytes (page_of t) ≡ e.1 → page_of t ≡ c
  its_page t fresh value = page_is (page_of t) c (let b = (fresh (page_of t) (owns_page t)).0 in omega arith) fits (value ∙ sym at)

  can_first : (f : Forest) → AreTrees P d low high f → links f ≡ e ∷ es → AreApart f → ((q : ℕ) → forest_owns f q → CanName q old) → CanWalk P d low (next_key high es) c old
  can_first (one key t) stand is apart fresh = search (rules, its_page)
  can_first (more key t f) stand is apart fresh = search (rules, its_page)

  can_rest : (new : Marks) → IsWalked P d low (next_key high es) c old new → 0 < length es → (f : Forest) → AreTrees P d low high f → links f ≡ e ∷ es → AreApart f → ((q : ℕ) → forest_owns f q → CanName q old) → CanWalkAll P d (key_at es 0) high es new
  can_rest new w some (one key t) stand is apart fresh = absurd (let none : 0 ≡ length es = ap (λ (l : List Entry). length (drop 1 l)) is in omega arith)
  can_rest new w some (more key t f) stand is apart fresh = search (rules, its_page, one_tree)

-- ---- that at a place, and those from the next one on
pub can_walk_child : (P : Image) (d : ℕ) (low : List ℕ) (high : Option (List ℕ)) (es : List Entry) (k c : ℕ) (old : Marks) → length old.seen.items ≤ 2 ^ 32 → c < 2 ^ 32 → k < length es → child_bytes c ≡ value_at es k
    → CanWalkAll P d (lower_of low es k) high (drop k es) old → CanWalk P d (lower_of low es k) (upper_of high es k) c old
can_walk_child P d low high es k c old small fits lt at can = search (rules, can_first, drop_next)

pub can_walk_next : (P : Image) (d : ℕ) (low : List ℕ) (high : Option (List ℕ)) (es : List Entry) (k c : ℕ) (old new : Marks) → length old.seen.items ≤ 2 ^ 32 → c < 2 ^ 32 → k + 1 < length es → child_bytes c ≡ value_at es k
    → IsWalked P d (lower_of low es k) (upper_of high es k) c old new → CanWalkAll P d (lower_of low es k) high (drop k es) old → CanWalkAll P d (lower_of low es (k + 1)) high (drop (k + 1) es) new
can_walk_next P d low high es k c old new small fits lt at w can =
    let key : key_at (drop (suc k) es) 0 ≡ key_at es (suc k) = ap (λ (l : List Entry). key_at l 0) (drop_next es (suc k) (omega arith)) in
    subst (λ (n : ℕ). CanWalkAll P d (lower_of low es n) high (drop n es) new) (sym (add-one k))
    (subst (λ (x : List ℕ). CanWalkAll P d x high (drop (suc k) es) new) key
    (can_rest P d (lower_of low es k) high (get_or es k ([], [])) (drop (suc k) es) c old small fits at new w (let l = length-drop (suc k) es in omega arith) can.forest can.stand (can.links_are ∙ drop_next es k (omega arith)) can.apart can.fresh))

-- a node's children are walked from a place on: when the rest is, the tree is; and what can be walked at first can be from there
pub record AreBelow (P : Image) (d : ℕ) (low : List ℕ) (high : Option (List ℕ)) (p : ℕ) (es : List Entry) (k : ℕ) (old new : Marks) : Type 0 where
  pub walked : (end : Marks) → AreWalkedFrom P (d - 1) low high es k new end → IsWalked P d low high p old end
  pub can : CanWalk P d low high p old → k < length es → CanWalkAll P (d - 1) (lower_of low es k) high (drop k es) new
