-- Leaves that are held one after the other.
use Rattle.{std.proofs.Common.{rules, ◌≡◌, ◌<◌, ◌+◌, ◌-◌, ℕ, zero, suc, List, [], ◌∷◌, ◌++◌, length, drop, get_or, subst, arith}, page_btree.specs.gets.Seeking.AreLeaves}
use Rattle.page_btree.{specs.node.{Bytes.LiesNot, Walking.IsAhead, claim.{Entries.Entry, Node.IsNode, Places.Rises}}, proofs.node.Walking.ahead_lies}

-- a row that is ahead is found to lie there
pub row_lies : (page : List ℕ) (at : ℕ) (e : Entry) (es : List Entry) → IsAhead page at (e ∷ es) → LiesNot page at → ⊥
row_lies = ahead_lies

-- the first of them, and the others
pub record IsNextLeaf (k more : ℕ) (pages : List (List ℕ)) (rows : List Entry) : Type 0 where
  pub here : List Entry
  pub others : List Entry
  pub rows_are : rows ≡ here ++ others
  pub node : IsNode (get_or {A = List ℕ} pages k []) (record { level = 0; entries = here })
  pub rises : Rises here
  pub some : 0 < length here
  pub others_are : AreLeaves (more - 1) (drop (k + 1) pages) others
  pub within : k < length pages

pub next_leaf : (k more : ℕ) (pages : List (List ℕ)) (rows : List Entry) → 0 < more → AreLeaves more (drop k pages) rows → IsNextLeaf k more pages rows
next_leaf k zero pages rows some are = absurd (omega arith)
next_leaf zero (suc m) [] rows some are = absurd are
next_leaf (suc k) (suc m) [] rows some are = absurd are
next_leaf zero (suc m) (page ∷ pages) rows some are = search rules
next_leaf (suc k) (suc m) (page ∷ pages) rows some are =
    let next = next_leaf k (suc m) pages rows some are in
    let on : suc (k + 1) ≡ suc k + 1 = omega arith in
    let after : AreLeaves (suc m - 1) (drop (suc k + 1) (page ∷ pages)) next.others = subst (λ (n : ℕ). AreLeaves (suc m - 1) (drop n (page ∷ pages)) next.others) on next.others_are in
    search arith
