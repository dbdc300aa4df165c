-- A search that looks at a few keys of those that rise.
use Rattle.std.{specs.{Cmp.Lexicographic.nat_list_cmp_total, Ordering.is_gt, Prelude.{Result, Ok, Err, OnErr}, declared.cmp.Ordering.TheVariants.Less}, proofs.lemmas.Bool.cases_eq}
use Rattle.std.proofs.{Common.{rules, ◌≡◌, ℕ, ◌+◌, ◌-◌, ◌<◌, List, ◌∷◌, length, take, false, suc, refl, sym, ap, ◌∙◌, subst, arith, inl, inr}, lemmas.Cmp.upto}
use Rattle.page_btree_node.specs.{Bytes.{LiesAt, LiesNot}, Entries.key_at, Searching.{IsBelow, IsLast, RisesAfter}, Walking.PassesTo, claim.Entries.{Entry, size_of}}
use Rattle.page_btree_node.{specs.claim.{Node.{Node, IsNode}, Places.key_cmp}, proofs.{Laws.rises_at, Passed.node_passed, Scanning.{lies_there, entry_of, end_of, value_part}}}

pub after_at : (es : List Entry) (j k : ℕ) → RisesAfter es → 0 < j → j < k → k < length es → key_cmp (key_at es j) (key_at es k) ≡ Less
after_at (e ∷ es) (suc j) (suc k) rises some less within = rises_at es j k rises (omega arith) (omega arith)
after_at _ _ _ rises some less within = absurd (omega arith)

-- no entry is before the first
pub first_below : (key : List ℕ) (es : List Entry) → IsBelow key es 0 4
first_below key es = (refl, λ rises j less. absurd (omega arith))

pub where_err : {T E : Type 0} (r : Result T E) (A B : Type 0) → (A → B) → OnErr r A → OnErr r B
where_err (Ok x) A B f h = tt
where_err (Err e) A B f h = f h

-- ---- the entry after eight that were passed
module _ (page : List ℕ) (node : Node) (k at mid : ℕ) (is : IsNode page node) (place : at ≡ 4 + size_of (take k node.entries)) (within : k + 8 < length node.entries) (passed : PassesTo page at 8 mid) where
  pub ninth : mid ≡ 4 + size_of (take (k + 8) node.entries)
  ninth = node_passed page node k at 8 mid is place (omega arith) passed

  pub ninth_not : LiesNot page mid → ⊥
  ninth_not = lies_there page node (k + 8) mid is within ninth

  pub ninth_end : (value end : ℕ) → LiesAt page mid value end → end ≡ 4 + size_of (take (k + 9) node.entries)
  ninth_end value end lies = end_of page node (k + 8) mid value end is within ninth lies ∙ ap (λ q. 4 + size_of (take q node.entries)) (omega arith)

  -- where its key isn't above, no key before what follows is
  pub ninth_last : (key : List ℕ) (value end : ℕ) → LiesAt page mid value end → RisesAfter node.entries → is_gt (key_cmp (key_at node.entries (k + 8)) key) ≡ false → IsLast page key node.entries (k + 9) value end
  ninth_last key value end lies rises from = record {
    place = ninth_end value end lies;
    below = λ j some less. elim (cases_eq j (k + 8)) [
      | inl same ↦ subst (λ (i : ℕ). is_gt (key_cmp (key_at node.entries i) key) ≡ false) (sym same) from
      | inr other ↦ upto nat_list_cmp_total (key_at node.entries j) (key_at node.entries (k + 8)) key (ap is_gt (after_at node.entries j (k + 8) rises some (omega arith) within)) from
    ];
    none = λ none. absurd (omega arith);
    some = λ _. let e = entry_of page node (k + 8) mid is within ninth in let before : k + 9 - 1 ≡ k + 8 = omega arith in rw before (search (rules, value_part));
  }
