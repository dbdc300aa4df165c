-- Lemmas on the definitions of Taken.
use Rattle.std.{specs.Prelude.None, proofs.Common.{rules, ◌≡◌, ℕ, List, [], ◌∷◌, ◌++◌, true, false, refl, ap, ◌∙◌, append_assoc, ◌≤◌, cond, length, length-append, arith}}
use Rattle.{std.proofs.lemmas.List.append-nil, btree_scan.specs.{Prefixes.{under, is_under}, Scanning.{Rest, IsNextRow, fault_in}, Taken.HasTaken, declared.rows.Row.Row}}
use Rattle.{btree_scan.specs.declared.scans.RowScan.RowScan, page_btree.specs.node.claim.Entries.Entry}

pub taken_none : (prefix : List ℕ) (scan : RowScan) (all : List Entry) → Rest scan all (under prefix all) → HasTaken prefix [] scan all
taken_none prefix scan all rest = record { rest = under prefix all; rest_are = rest; whole = refl }

-- one more
pub taken_more : (prefix : List ℕ) (taken : List Entry) (old new : RowScan) (row : Row) (all : List Entry) (h : HasTaken prefix taken old all) → IsNextRow true new row all h.rest → HasTaken prefix (taken ++ (row.key, row.value) ∷ []) new all
taken_more prefix taken old new row all h next = search (rules, append_assoc)

-- no more: they are all
pub taken_all : (prefix : List ℕ) (taken : List Entry) (old new : RowScan) (row : Row) (all : List Entry) (h : HasTaken prefix taken old all) → IsNextRow false new row all h.rest → fault_in new ≡ None → under prefix all ≡ taken
taken_all prefix taken old new row all h next none = h.whole ∙ ap (λ (l : List Entry). taken ++ l) (next none) ∙ append-nil taken

-- they are never more than all
under_few : (prefix : List ℕ) (es : List Entry) → length (under prefix es) ≤ length es
under_few prefix [] = omega arith
under_few prefix (e ∷ es) =
    let rest = under_few prefix es in
    elim (is_under prefix e) as (λ b. length (cond b (e ∷ under prefix es) (under prefix es)) ≤ length (e ∷ es)) [ true ↦ omega arith | false ↦ omega arith ]

pub taken_few : (prefix : List ℕ) (taken : List Entry) (scan : RowScan) (all : List Entry) → HasTaken prefix taken scan all → length taken ≤ length all
taken_few prefix taken scan all h = search (arith, under_few prefix all, length-append taken h.rest)
