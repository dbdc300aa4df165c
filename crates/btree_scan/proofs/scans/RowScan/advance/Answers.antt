use Rattle.{std.{specs.FinMap.entries, proofs.Common.{refl, sym, subst, rules}}, btree_scan.specs.{Parts.{page_of, row_at}, Scanning.{RestWhere, IsStep, CanScan, CanStep}}}
use Rattle.btree_scan.proofs.Ready.{scan_wider}
use Rattle.btree_scan.proofs.scans.RowScan.advance.Goals as goal

pub returns-then-self : goal.returns-then-self
returns-then-self g c = search rules

pub returns-in-Ok-true : goal.returns-in-Ok-true
returns-in-Ok-true g c = record {
  quiet = search rules;
  rows = λ honest m rest holds is.
      let prefix = c.args.self.now.prefix in
      let ready = subst (λ b. RestWhere b c.args.self.now.covered prefix c.args.self.now.leaf c.args.self.now.held (entries m) rest) c.if-self.false is in
      let s = subst (λ b. IsStep b c.step.new.covered prefix c.step.new.leaf c.step.new.held (row_at (page_of c.step.new.held) c.step.new.parts) (entries m) rest) c.in-Ok-true.field-0-test (c.in-Ok-true.ensures.rows honest m rest holds ready) in
      (s.0, s.1, subst (λ b. RestWhere b c.step.new.covered prefix c.step.new.leaf c.step.new.held (entries m) s.0) (sym c.if-self.false) s.2);
  passed = search rules;
  fault = search rules;
  going = λ _. (c.if-self.false, refl);
  ended = search rules;
  kept = λ ended. cc (c.if-self.false);
}

pub returns-in-Ok-false : goal.returns-in-Ok-false
returns-in-Ok-false g c = record {
  quiet = search rules;
  rows = λ honest m rest holds is none.
      let prefix = c.args.self.now.prefix in
      let ready = subst (λ b. RestWhere b c.args.self.now.covered prefix c.args.self.now.leaf c.args.self.now.held (entries m) rest) c.if-self.false is in
      subst (λ b. IsStep b c.step.new.covered prefix c.step.new.leaf c.step.new.held (row_at (page_of c.step.new.held) c.step.new.parts) (entries m) rest) c.in-Ok-false.field-0-test (c.in-Ok-false.ensures.rows honest m rest holds ready);
  passed = search rules;
  fault = search rules;
  going = search rules;
  ended = search rules;
  kept = λ ended. cc (c.if-self.false);
}

pub returns-in-Err : goal.returns-in-Err
returns-in-Err g c = record {
  quiet = search rules;
  rows = λ honest m rest holds is none. cc;
  passed = λ none. cc;
  fault = λ none.
      let scan = c.args.self.now in
      scan_wider (CanStep scan.covered scan.prefix scan.leaf scan.held) (CanScan scan) c.args.txn.now c.args.pages.now c.step.new.pages
      (λ m there. (there.0, subst (λ b. RestWhere b scan.covered scan.prefix scan.leaf scan.held (entries m) there.0) c.if-self.false there.1)) c.in-Err.fault c.in-Err.ensures.reading.err;
  going = search rules;
  ended = search rules;
  kept = λ ended. cc (c.if-self.false);
}
