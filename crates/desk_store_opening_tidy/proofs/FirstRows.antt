-- The first row from a key on, and the rows after it.
use Rattle.std.specs.{FinMap.entries, List.starts_with, Ordering.{is_gt, nat_cmp, ordering_then}, declared.cmp.Ordering.{Ordering, TheVariants.{Less, Equal}}}
use Rattle.std.proofs.Common.{◌≡◌, ◌⊎◌, inl, inr, ◌<◌, ℕ, List, [], ◌∷◌, ◌++◌, length, Bool, true, false, nat_eq, None, sym, ap, subst, arith}
use Rattle.{btree_scan.specs.{Scanning.{IsNextRow, fault_in}, declared.{rows.Row.Row, scans.RowScan.RowScan}}, desk_store_opening_tidy.specs.Rows.{IsFirst, NoneFrom}}
use Rattle.{desk_store_opening_tidy.specs.claim.Rows.IsFrom, desk_store_rows.specs.claim.Rows.KeyMap, page_btree.specs.node.{Places.entries_from, claim.Entries.Entry}}
use Rattle.{page_btree.specs.node.claim.Places.key_cmp, btree_scan.proofs.Prefixes.{none_above, under_is_from}, desk_store_rows.proofs.Frames.same_key}
use Rattle.page_btree.proofs.node.Laws.{less_trans}
pub use Rattle.btree_scan.proofs.RowsFound.{first_is_from, first_least, first_none, first_there}

-- ---- the order of keys
pub clash : (b : Bool) → b ≡ true → b ≡ false → ⊥
clash b is is_not = search (arith)

from_or_same : (a b : List ℕ) → IsFrom a b → (key_cmp a b ≡ Less) ⊎ (a ≡ b)
from_or_same a b from = search (arith, same_key, clash)

pub less_from : (a b : List ℕ) → key_cmp a b ≡ Less → IsFrom a b
less_from a b less = ap is_gt less

pub from_trans : (a b c : List ℕ) → IsFrom a b → IsFrom b c → IsFrom a c
from_trans a b c from next = search (arith, from_or_same, less_from, less_trans)

-- a key with a lower tag stands before
pub lower_tag : (tag other : ℕ) (rest more : List ℕ) → tag < other → IsFrom (other ∷ rest) (tag ∷ more) → ⊥
lower_tag tag other rest more less from = search (arith, clash)

-- what stands after numbers of as many bytes doesn't count, where these differ
pub decided : (r : Ordering) → (r ≡ Equal → ⊥) → (x y w z : List ℕ) → length x ≡ length y → key_cmp x y ≡ r → key_cmp (x ++ w) (y ++ z) ≡ r
decided r apart [] [] w z long is = absurd (apart (sym is))
decided r apart [] (b ∷ y) w z long is = absurd (omega arith)
decided r apart (a ∷ x) [] w z long is = absurd (omega arith)
decided r apart (a ∷ x) (b ∷ y) w z long is = elim (nat_cmp a b) as (λ s. ordering_then s (key_cmp x y) ≡ r → ordering_then s (key_cmp (x ++ w) (y ++ z)) ≡ r) [
  | Equal ↦ λ h. decided r apart x y w z (omega arith) h
  | _ ↦ λ h. h
] is

-- ---- rows from a key on
module _ (m : KeyMap) (key : List ℕ) (e : Entry) (more : List Entry) (first : entries_from key (entries m) ≡ e ∷ more) where
  module _ (prefix : List ℕ) (under : starts_with nat_eq key prefix ≡ true) where
    -- where it isn't under a prefix, none after it is
    pub none_after : starts_with nat_eq e.0 prefix ≡ false → NoneFrom key prefix m
    none_after off k value there from on = elim (from_or_same e.0 k (first_least m key e more first k value there from)) [
      | inl less ↦ clash (starts_with nat_eq k prefix) on (none_above prefix e.0 k (from_trans prefix key e.0 (under_is_from prefix key under) (first_is_from m key e more first)) off less)
      | inr same ↦ clash (starts_with nat_eq k prefix) on (subst (λ (x : List ℕ). starts_with nat_eq x prefix ≡ false) same off)
    ]

    -- where it is, one is there
    pub one_there : starts_with nat_eq e.0 prefix ≡ true → NoneFrom key prefix m → ⊥
    one_there on none = none e.0 e.1 (first_there m key e more first) (first_is_from m key e more first) on

pub none_at_all : (m : KeyMap) (key prefix : List ℕ) → entries_from key (entries m) ≡ [] → NoneFrom key prefix m
none_at_all m key prefix none k value there from on = first_none m key none k value there from

-- what a scan from a key on takes first
pub is_first : (found : Bool) (scan : RowScan) (row : Row) (key : List ℕ) (m : KeyMap) → fault_in scan ≡ None → IsNextRow found scan row (entries m) (entries_from key (entries m)) → IsFirst found key row m
is_first found scan row key m none next = search (arith, next)
