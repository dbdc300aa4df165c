-- What of a put is known of the node at a page.
use Rattle.{std.specs.{Ordering.is_gt, Prelude.{Option, Some, None, insert, take, drop, IfSome}}, page_btree_gets.specs.{claim.Errors.level_in, node.claim.Places.key_cmp}}
use Rattle.{std.proofs.Common.{◌≡◌, ◌<◌, ◌≤◌, ◌+◌, ◌∙◌, ℕ, List, [], ◌∷◌, ◌++◌, length, Bool, true, false, cond, refl, sym, ap, subst, arith}, page_btree_puts.specs.Reach.Widens}
use Rattle.page_btree_gets.{specs.{claim.Tree.{Tree, IsTree, AreTrees, page_of}, node.claim.{Entries.{Entry, size_of}, Node.{Node, IsNode, count_in}}}, proofs.Descent.node_of}
use Rattle.{page_btree_puts.{specs.Putting.{after_child, linked, IsWritten, IsRaised}, proofs.Reach.many_entries}, sector_device.specs.claim.Disk.Image}
use Rattle.page_btree_gets.proofs.node.EntryLists.{size-append, size-parts}

insert_size : (es : List Entry) (i : ℕ) (e : Entry) → length e.0 ≤ 72 → length e.1 ≡ 4 → size_of (insert es i e) ≤ size_of es + 79
insert_size es i e short four = let parts = size-parts i es in let whole = size-append (take i es) (e ∷ drop i es) in omega arith

-- a node that was cut after a link more had 51 entries
pub cut_wide : (bytes : List ℕ) (was node made : Node) (place : ℕ) (key value : List ℕ) → was ≡ node → made ≡ record was { entries = insert was.entries place (key, value) } → length key ≤ 72 → length value ≡ 4 → IsNode bytes node → 0 < node.level
    → 4092 < size_of made.entries → 51 ≤ length node.entries
cut_wide bytes was node made place key value same is short four there high over =
    let more : size_of made.entries ≡ size_of (insert node.entries place (key, value)) = ap (λ (n : Node). size_of n.entries) is ∙ ap (λ (n : Node). size_of (insert n.entries place (key, value))) same in
    let size = insert_size node.entries place (key, value) short four in
    many_entries bytes node (key, value) (insert node.entries place (key, value)) there high size (omega arith)

after_length : (key : List ℕ) (x : Entry) (es : List Entry) → length (after_child key (x ∷ []) es) ≡ length es + 1
after_length key x [] = refl
after_length key x (e ∷ es) =
    let rest = after_length key x es in
    elim (is_gt (key_cmp e.0 key)) as (λ (b : Bool). length (cond b ((x ∷ []) ++ e ∷ es) (e ∷ after_child key (x ∷ []) es)) ≡ length (e ∷ es) + 1) [ true ↦ omega arith | false ↦ omega arith ]

linked_length : (key : List ℕ) (x : Entry) (es : List Entry) → length (linked key (x ∷ []) es) ≤ length es + 1
linked_length key x [] = omega arith
linked_length key x (e ∷ es) = let rest = after_length key x es in omega arith

pub widens_none : (was is : List ℕ) (right : Option ℕ) → right ≡ None → count_in is ≤ count_in was + 1 → Widens was is right
widens_none was is right none few = subst (λ r. Widens was is r) (sym none) few

-- of a page that has the same node, and of one that was written with a link more
pub widens_same : (was is : List ℕ) (node : Node) (right : Option ℕ) → right ≡ None → IsNode was node → IsNode is node → Widens was is right
widens_same was is node right none before after = let a = before.count in let b = after.count in widens_none was is right none (omega arith)

pub widens_written : (P Q R : Image) (left last : List ℕ) (page : ℕ) (cut : Option ℕ) (node above : Node) (key : List ℕ) (x : Entry) → IsNode (P page) node → IsWritten Q R left last page cut (record node { entries = linked key (x ∷ []) node.entries }) above
    → IfSome cut (λ q. 51 ≤ length node.entries) → Widens (P page) (R page) cut
widens_written P Q R left last page None node above key x before w wide = let a = before.count in let b = w.holds.count in let few = linked_length key x node.entries in omega arith
widens_written P Q R left last page (Some q) node above key x before w wide = let a = before.count in omega arith

-- the level that a tree's page says
pub tree_level : (P : Image) (d : ℕ) (low : List ℕ) (high : Option (List ℕ)) (t : Tree) (p : ℕ) → IsTree P d low high t → page_of t ≡ p → level_in P p ≡ d
tree_level P d low high t p is at =
    let node = node_of P d low high t is in
    ap (λ q. level_in P q) (sym at) ∙ node.1.level ∙ node.2

pub raised_level : (P Q : Image) (d : ℕ) (low : List ℕ) (high : Option (List ℕ)) (free left : List ℕ) (key value : List ℕ) (had : Bool) (k : List ℕ) (page : ℕ) (t : Tree) (right : Option ℕ) (upper : Node) → right ≡ None
    → IsRaised P Q d low high free left key value had k page t right upper → level_in Q page ≡ d
raised_level P Q d low high free left key value had k page t right upper none up =
    let whole : IsRaised P Q d low high free left key value had k page t None upper = subst (λ r. IsRaised P Q d low high free left key value had k page t r upper) none up in
    tree_level Q d low high whole.shape.0 page (subst (λ f. AreTrees Q d low high f) whole.shape.1 whole.is_put.trees) whole.shape.2
