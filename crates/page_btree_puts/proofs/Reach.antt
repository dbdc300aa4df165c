-- Lemmas on the definitions of Reach.
use Rattle.std.{specs.Prelude.min, proofs.Common.{◌≡◌, ◌≢◌, ◌<◌, ◌≤◌, ◌+◌, ◌*◌, ◌∙◌, inl, inr, ℕ, zero, suc, List, [], ◌∷◌, length, All, refl, sym, ap, arith, get_or}}
use Rattle.std.proofs.{Math.Nat.{min-eq_left, min-eq_right, min-le_left, min-le_right}, lemmas.{Bool.Decides.{leb_tells, eqb_tells}, List.Elements.{All-head, All-tail}}}
use Rattle.page_btree_gets.specs.{claim.Errors.{level_in, reach_at, reach_in, top_reach}, node.claim.{Entries.{Entry, IsEntry, size_of}, Node.{Node, IsNode, count_in}}}
use Rattle.sector_device.specs.claim.Disk.{Image}

pub min_few : (e : ℕ) → e ≤ 51 → min 51 e ≡ e
min_few e few = min-eq_right few

pub min_most : (e : ℕ) → 51 ≤ e → min 51 e ≡ 51
min_most e many = min-eq_left many

min_more : (e f : ℕ) → f ≤ e + 1 → min 51 f ≤ min 51 e + 1
min_more e f le = elim (leb_tells 51 e) [
  | inl told ↦ let many = min_most e told.1 in let low = min-le_left 51 f in omega arith
  | inr told ↦ let few = told.1 in let is = min_few e (omega (arith, few)) in let low = min-le_right 51 f in omega arith
]

-- entries that have no room are 52 at least
few_bytes : (es : List Entry) → All IsEntry es → All (λ e. length e.1 ≡ 4) es → size_of es ≤ 79 * length es
few_bytes [] all four = omega arith
few_bytes (e ∷ es) all four =
    let rest = few_bytes es (All-tail IsEntry e es all) (All-tail (λ (x : Entry). length x.1 ≡ 4) e es four) in
    let k = (All-head IsEntry e es all).0 in
    let v = All-head (λ (x : Entry). length x.1 ≡ 4) e es four in
    omega arith

pub many_entries : (bytes : List ℕ) (node : Node) (extra : Entry) (es : List Entry) → IsNode bytes node → 0 < node.level → size_of es ≤ size_of node.entries + 79 → 4092 < size_of es → 51 ≤ length node.entries
many_entries bytes node extra es is high sum over =
    let few = few_bytes node.entries is.shape.entries (is.shape.children high) in
    omega arith

-- ---- from one root to another
-- the root stays, with one entry more at most
pub stays_at : (level e f : ℕ) → f ≤ e + 1 → reach_at level f ≤ reach_at level e + 1
stays_at zero e f le = omega arith
stays_at (suc d) e f le = let more = min_more e f le in omega arith

-- a root is above one of 51 entries, or above a leaf
pub grows_at : (level e : ℕ) → (0 < level → 51 ≤ e) → reach_at (suc level) 2 ≤ reach_at level e + 1
grows_at zero e wide = omega arith
grows_at (suc d) e wide = let is = min_most e (wide (omega arith)) in omega arith

pub top_at : (level e : ℕ) → level ≡ 5 → (0 < level → 51 ≤ e) → top_reach ≤ reach_at level e
top_at zero e five wide = absurd (omega (arith, five))
top_at (suc d) e five wide = let is = min_most e (wide (omega arith)) in omega arith

-- a leaf at the root, or none
pub reach_leaf : (P : Image) (p : ℕ) → level_in P p ≡ 0 → p ≢ 0 → reach_in P p ≡ 51
reach_leaf P zero leaf some = absurd (some refl)
reach_leaf P (suc p) leaf some = ap (λ d. reach_at d (count_in (P (suc p)))) leaf

pub first_rises : (P Q : Image) (p q : ℕ) → p ≡ 0 → level_in Q q ≡ 0 → reach_in Q q ≤ reach_in P p + 1
first_rises P Q zero zero none leaf = omega arith
first_rises P Q zero (suc q) none leaf = let is = reach_leaf Q (suc q) leaf (λ bad. absurd (omega (arith, bad))) in omega arith
first_rises P Q (suc p) q none leaf = absurd (omega (arith, none))

-- at a root that there is
pub reach_is : (P : Image) (p : ℕ) → p ≢ 0 → reach_in P p ≡ reach_at (level_in P p) (count_in (P p))
reach_is P zero some = absurd (some refl)
reach_is P (suc p) some = refl

pub most_reach : (level e : ℕ) → level ≤ 5 → reach_at level e ≤ top_reach
most_reach zero e few = omega arith
most_reach (suc d) e few = let low = min-le_left 51 e in omega arith

some_reach : (level e : ℕ) → 50 ≤ reach_at level e
some_reach zero e = omega arith
some_reach (suc d) e = omega arith

-- from pages to pages: the root stays
pub root_stays : (P Q : Image) (p level : ℕ) → p ≢ 0 → level_in P p ≡ level → level_in Q p ≡ level → (0 < level → count_in (Q p) ≤ count_in (P p) + 1) → reach_in Q p ≤ reach_in P p + 1
root_stays P Q p zero some was is wide = let a = reach_leaf P p was some in let b = reach_leaf Q p is some in omega arith
root_stays P Q p (suc d) some was is wide =
    let a : reach_in P p ≡ reach_at (suc d) (count_in (P p)) = reach_is P p some ∙ ap (λ l. reach_at l (count_in (P p))) was in
    let b : reach_in Q p ≡ reach_at (suc d) (count_in (Q p)) = reach_is Q p some ∙ ap (λ l. reach_at l (count_in (Q p))) is in
    let more = stays_at (suc d) (count_in (P p)) (count_in (Q p)) (wide (omega arith)) in
    omega (arith, a, b, more)

-- a new root stands above the one before
pub root_grows : (P R : Image) (p top level : ℕ) → p ≢ 0 → level_in P p ≡ level → (0 < level → 51 ≤ count_in (P p)) → level_in R top ≡ level + 1 → count_in (R top) ≡ 2 → reach_in R top ≤ reach_in P p + 1
root_grows P R p zero level some was wide is two =
    let a : reach_in P p ≡ reach_at level (count_in (P p)) = reach_is P p some ∙ ap (λ l. reach_at l (count_in (P p))) was in
    let low = some_reach level (count_in (P p)) in
    omega (arith, a, low)
root_grows P R p (suc top) level some was wide is two =
    let a : reach_in P p ≡ reach_at level (count_in (P p)) = reach_is P p some ∙ ap (λ l. reach_at l (count_in (P p))) was in
    let next : level + 1 ≡ suc level = omega arith in
    let b : reach_in R (suc top) ≡ reach_at (suc level) 2 = ap (λ l. reach_at l (count_in (R (suc top)))) (is ∙ next) ∙ ap (λ k. reach_at (suc level) k) two in
    let more = grows_at level (count_in (P p)) wide in
    omega (arith, a, b, more)

-- none can grow
pub root_tall : (P : Image) (p level : ℕ) → p ≢ 0 → level_in P p ≡ level → level ≡ 5 → (0 < level → 51 ≤ count_in (P p)) → top_reach ≤ reach_in P p
root_tall P p level some was five wide =
    let a : reach_in P p ≡ reach_at level (count_in (P p)) = reach_is P p some ∙ ap (λ l. reach_at l (count_in (P p))) was in
    let high = top_at level (count_in (P p)) five wide in
    omega (arith, a, high)

-- a leaf was edited, and no other page
pub leaf_edited : (P Q : Image) (p leaf : ℕ) (es fs : List Entry) → IsNode (P leaf) (record { level = 0; entries = es }) → IsNode (Q leaf) (record { level = 0; entries = fs }) → ((q : ℕ) → q ≢ leaf → Q q ≡ P q) → reach_in Q p ≡ reach_in P p
leaf_edited P Q zero leaf es fs was is off = refl
leaf_edited P Q (suc p) leaf es fs was is off = elim (eqb_tells (suc p) leaf) [
  | inl told ↦
      let some : suc p ≢ 0 = λ bad. absurd (omega (arith, bad)) in
      let a : level_in P (suc p) ≡ 0 = ap (λ q. level_in P q) told.1 ∙ was.level in
      let b : level_in Q (suc p) ≡ 0 = ap (λ q. level_in Q q) told.1 ∙ is.level in
      reach_leaf Q (suc p) b some ∙ sym (reach_leaf P (suc p) a some)
  | inr told ↦ ap (λ (bytes : List ℕ). reach_at (get_or bytes 0 0) (count_in bytes)) (off (suc p) told.1)
]
