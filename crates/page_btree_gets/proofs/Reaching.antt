-- Keys that belong to one leaf.
use Rattle.{std.{specs.{FinMap.find, Ordering.is_gt, Prelude.{Option, Some}}, proofs.lemmas.Bool.cases_eq}, page_btree_gets.specs.Getting.{CanGet, CanGetAt, IsChild}}
use Rattle.std.proofs.Common.{rules, ◌≡◌, ◌≢◌, ◌-◌, ◌<◌, ◌≤◌, ◌^◌, ℕ, zero, suc, List, [], ◌∷◌, Bool, true, false, cond, refl, sym, ap, subst, ◌∙◌, arith}
use Rattle.{page_btree_gets.specs.{Leading.LeadsTo, claim.{Errors.level_in, Keys.{IsBetween, IsUnder}, Tree.rows}}, page_btree_node.specs.Searching.RisesAfter}
use Rattle.page_btree_node.specs.{Places.{floor, floor_from, ceiling, ceiling_from}, claim.{Entries.Entry, Node.{Node, IsNode}, Places.key_cmp}}
use Rattle.{sector_device.specs.claim.Disk.Image, page_btree_gets.proofs.{Descent.{node_of, leaf_page, goes_on}, Leads.leads_more, Seeking.lower_of}}
use Rattle.page_btree_node.proofs.Laws.{flip_less, node_unique}

chosen : (b c : Bool) (last x y : Option (List ℕ)) → (b ≡ true → c ≡ true) → (b ≡ false → c ≡ false) → (b ≡ false → x ≡ y) → cond c last x ≡ cond b last y
chosen true true last x y f h k = refl
chosen true false last x y f h k = let e = f refl in cc
chosen false true last x y f h k = let e = h refl in cc
chosen false false last x y f h k = k refl

floor_from_reaches : (last : Option (List ℕ)) (key other : List ℕ) (es : List Entry) → is_gt (key_cmp key other) ≡ false → IsUnder other (ceiling_from key es) → floor_from last other es ≡ floor_from last key es
floor_from_reaches last key other [] from under = refl
floor_from_reaches last key other (e ∷ es) from under =
    chosen (is_gt (key_cmp e.0 key)) (is_gt (key_cmp e.0 other)) last (floor_from (Some e.1) other es) (floor_from (Some e.1) key es)
    (λ above. ap is_gt (flip_less other e.0 (subst (λ (b : Bool). IsUnder other (cond b (Some e.0) (ceiling_from key es))) above under)))
    (λ not. lower_of e.0 key other (key_cmp e.0 key) refl not from)
    (λ not. floor_from_reaches (Some e.1) key other es from (subst (λ (b : Bool). IsUnder other (cond b (Some e.0) (ceiling_from key es))) not under))

-- keys from one on and below the first that is above it belong to its child
pub floor_reaches : (key other : List ℕ) (es : List Entry) → is_gt (key_cmp key other) ≡ false → IsUnder other (ceiling key es) → floor other es ≡ floor key es
floor_reaches key other [] from under = refl
floor_reaches key other (e ∷ es) from under = floor_from_reaches (Some e.1) key other es from under

-- one level more
pub reaches_more : (P : Image) (d page : ℕ) (key other : List ℕ) (leaf child : ℕ) (high : Option (List ℕ)) → 0 < d → IsBetween key high other
    → IsChild (P page) key child
    → ((node : Node) → IsNode (P page) node → RisesAfter node.entries → IsUnder other (ceiling key node.entries))
    → LeadsTo P (d - 1) child other leaf → LeadsTo P d page other leaf
reaches_more P d page key other leaf child high some between told within rest = search (rules, leads_more, floor_reaches)

-- ---- an edit of a leaf
-- the level of a root is that of its tree
pub root_level : (n : ℕ) (P : Image) (d : ℕ) (key : List ℕ) (root : ℕ) → CanGetAt n P d key root → level_in P root ≡ d
root_level n P d key root can = can.1.node_is.level ∙ can.1.level_is

-- a page above the leaves is no leaf
above_leaf : (n : ℕ) (P : Image) (d : ℕ) (key : List ℕ) (page leaf : ℕ) (es : List Entry) → CanGet n P (suc d) key (P page) → IsNode (P leaf) (record { level = 0; entries = es }) → page ≢ leaf
above_leaf n P d key page leaf es can at is = search (rules, node_of, node_unique)

-- where pages differ in a leaf alone, the ways down are the same
pub leads_stays : (n : ℕ) (P Q : Image) (d : ℕ) (key : List ℕ) (page leaf other : ℕ) (es : List Entry) → n ≤ 2 ^ 32 → CanGet n P d key (P page) → IsNode (P leaf) (record { level = 0; entries = es }) → ((q : ℕ) → q ≢ leaf → Q q ≡ P q) → LeadsTo P d page key other → LeadsTo Q d page key other
leads_stays n P Q zero key page leaf other es few can at same is = is
leads_stays n P Q (suc d) key page leaf other es few can at same (child, told, rest) =
    let there : Q page ≡ P page = same page (above_leaf n P d key page leaf es can at) in
    let go = goes_on n P (suc d) key (P page) can child (omega arith) few told in (
      child,
      λ node is rises. told node (subst (λ b. IsNode b node) there is) rises,
      leads_stays n P Q d key child leaf other es few (subst (λ k. CanGet n P k key (P child)) (omega arith) (go.next (P child) refl)) at same rest,
    )

-- and so is the root's level, where the leaf stays one
pub level_stays : (P Q : Image) (root leaf : ℕ) (es fs : List Entry) → IsNode (P leaf) (record { level = 0; entries = es }) → IsNode (Q leaf) (record { level = 0; entries = fs }) → ((q : ℕ) → q ≢ leaf → Q q ≡ P q) → level_in Q root ≡ level_in P root
level_stays P Q root leaf es fs before after same = search (rules, cases_eq)

-- ---- a look-up
-- what a leaf says of a key that belongs to it is what the tree says
pub leads_found : (n : ℕ) (P : Image) (d : ℕ) (key : List ℕ) (page leaf : ℕ) (es : List Entry) → n ≤ 2 ^ 32 → (can : CanGet n P d key (P page)) → LeadsTo P d page key leaf → IsNode (P leaf) (record { level = 0; entries = es }) → find key_cmp key es ≡ find key_cmp key (rows can.tree)
leads_found n P zero key page leaf es few can is at =
    let l = leaf_page n P 0 key (P page) can refl in
    let here : IsNode (P page) (record { level = 0; entries = es }) = subst (λ (q : ℕ). IsNode (P q) (record { level = 0; entries = es })) is at in
    ap (λ (x : Node). find key_cmp key x.entries) (node_unique (P page) (record { level = 0; entries = es }) (record { level = 0; entries = rows can.tree }) here l.0)
leads_found n P (suc d) key page leaf es few can (child, told, rest) at =
    let e : suc d - 1 ≡ d = omega arith in
    let go = goes_on n P (suc d) key (P page) can child (omega arith) few told in
    subst (λ (k : ℕ). (c : CanGet n P k key (P child)) → find key_cmp key es ≡ find key_cmp key (rows c.tree)) (sym e) (λ c. leads_found n P d key child leaf es few c rest at) (go.next (P child) refl) ∙ go.found (P child) refl
