use Rattle.{std.proofs.Common.{◌≡◌, None, Ok}, btree_scan.specs.Scanning.fault_in, desk_store_pages.specs.Looking.{Gathers, Says}, geo_tables.specs.Elements.HoldsElements}
use Rattle.{geo_tables.{specs.Following.Scans, proofs.OneMore.HoldsFirst}, page_store.specs.claim.Transactions.{count_of, txn_pages}}
use Rattle.geo_tables.proofs.reads.read_elements.Given as goal

abbrev pub invariant-loop-place : goal.invariant-loop-place
invariant-loop-place g l = record {
  begun : txn_pages l.txn ≡ count_of l.pages;
  working : fault_in l.scan ≡ None;
  gathers : Gathers (λ m _. Scans l.scan m × HoldsFirst g.E.Element.bytes_of g.E.Element.fits (g.E.Element.key_at l.load) l.count l.place m l.all.items)
      (Says (HoldsElements g.E.Element.bytes_of g.E.Element.fits (g.E.Element.key_at l.load) l.count)) l.txn l.initial.pages l.pages (Ok (tt {0}));
}
