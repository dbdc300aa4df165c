use Rattle.{std.{specs.Prelude.IfSome, proofs.Common.{Option, subst, sym, ◌∙◌}}, btree_scan.specs.{Parts.row_of, Scanning.{CanScan, ScanErr}}}
use Rattle.{page_btree.specs.gets.declared.error.TreeError.TreeError, desk_store_pages.proofs.Looking.{looked, not_looked}, geo_tables.proofs.Along.{fault_unread, taken_so}}
use Rattle.geo_tables.proofs.reads.take_next.Goals as goal

pub returns-in-Some-clause-looks : goal.returns-in-Some-clause-looks
returns-in-Some-clause-looks g c = not_looked c.advance-found.ensures.quiet (fault_unread c.args.scan.now c.args.txn.now c.args.pages.now c.advance-found.new.pages c.fault.result c.in-Some.fault c.in-Some.is
    (subst (λ (o : Option TreeError). IfSome o (λ e. ScanErr (CanScan c.args.scan.now) c.args.txn.now c.args.pages.now c.advance-found.new.pages e)) (sym c.fault.ensures) (c.advance-found.ensures.fault c.requires.working)))

pub returns-in-None-clause-looks : goal.returns-in-None-clause-looks
returns-in-None-clause-looks g c =
    let working = sym c.fault.ensures ∙ c.in-None.is in
    looked (c.advance-found.ensures.passed working) (λ honest m holds scans.
    taken_so m c.args.scan.now c.advance-found.new.self (row_of c.advance-found.new.self) c.advance-found.result c.advance-found.ensures.ended working scans
    (λ rest there. c.advance-found.ensures.rows honest m rest holds there))
