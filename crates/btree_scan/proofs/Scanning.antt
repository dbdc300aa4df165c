-- Lemmas on the definitions of Scanning.
use Rattle.{std.{specs.Prelude.{◌≡◌, Bool, true, List, []}, proofs.Common.{refl, sym, subst}}, btree_scan.specs.Scanning.{Rest, RestWhere, has_ended}}
use Rattle.{btree_scan.specs.declared.scans.RowScan.RowScan, page_btree.specs.node.claim.Entries.Entry}

-- one that has ended has none to come
pub none_to_come : (scan : RowScan) (all : List Entry) → has_ended scan ≡ true → Rest scan all []
none_to_come scan all ended = subst (λ (b : Bool). RestWhere b scan.covered scan.prefix scan.leaf scan.held all []) (sym ended) refl
