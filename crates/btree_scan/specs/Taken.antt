-- A scan that took rows, and what they are in the end.
use Rattle.std.{specs.Prelude.None, proofs.Common.{◌≡◌, ◌∷◌, ℕ, List, ◌++◌, [], true, false}}
use Rattle.{btree_scan.specs.{Prefixes.under, Scanning.{Rest, IsNextRow, fault_in}, declared.{rows.Row.Row, scans.RowScan.RowScan}}, page_btree.specs.node.claim.Entries.Entry}

-- of the rows under a prefix these were taken, and the others are still to come
pub record HasTaken (prefix : List ℕ) (taken : List Entry) (scan : RowScan) (all : List Entry) : Type 0 where
  pub rest : List Entry
  pub rest_are : Rest scan all rest
  pub whole : under prefix all ≡ taken ++ rest

-- a row that a scan takes next is one more of them
abbrev pub TakenRowsGrow : Type 0
TakenRowsGrow =
    (prefix : List ℕ) (taken : List Entry) (old new : RowScan) (row : Row) (all : List Entry) (h : HasTaken prefix taken old all)
    → IsNextRow true new row all h.rest → HasTaken prefix (taken ++ (row.key, row.value) ∷ []) new all

-- where there is no next one, and no fault, they are all rows under the prefix
abbrev pub TakenRowsAreAll : Type 0
TakenRowsAreAll =
    (prefix : List ℕ) (taken : List Entry) (old new : RowScan) (row : Row) (all : List Entry) (h : HasTaken prefix taken old all)
    → IsNextRow false new row all h.rest → fault_in new ≡ None → under prefix all ≡ taken
