use Rattle.{std.{specs.List.starts_with, proofs.Common.{◌∙◌, ℕ, List, nat_eq, ap, arith}}, btree_scan.{specs.Parts.row_at, proofs.Ready.{head_of, step_of, covered_step}}}
use Rattle.page_btree.proofs.gets.Outcomes.{refused_as, refused_by}
use Rattle.btree_scan.proofs.scans.step.Goals as goal

pub returns-in_err-refill-clause-reading : goal.returns-in_err-refill-clause-reading
returns-in_err-refill-clause-reading g c = refused_as _ c.in_err-refill.ensures.reading c.from_residual.ensures.1 (λ why. why)

pub returns-then-leaf-eq0-clause-rows : goal.returns-then-leaf-eq0-clause-rows
returns-then-leaf-eq0-clause-rows g c = λ honest m rest holds is. (c.in_ok-refill.ensures.rows honest m rest holds is).1 c.if-leaf-eq0.true

pub returns-in_err-parts-clause-reading : goal.returns-in_err-parts-clause-reading
returns-in_err-parts-clause-reading g c = refused_by _ c.from_residual-in_err-parts.ensures.1 c.in_ok-refill.ensures.reading.quiet (rw c.in_err-parts.ensures.err (λ honest m holds ready.
    let h = head_of _ _ _ _ _ _ ((c.in_ok-refill.ensures.rows honest m ready.0 holds ready.1).0) (let not = c.if-leaf-eq0.false in omega arith) in
    c.in_err-parts.ensures.refused h.e h.es (rw c.page-page.ensures h.ahead)))

pub returns-then-covered-clause-rows : goal.returns-then-covered-clause-rows
returns-then-covered-clause-rows g c = λ honest m rest holds is.
    let h = head_of _ _ _ _ _ _ ((c.in_ok-refill.ensures.rows honest m rest holds is).0) (let not = c.if-leaf-eq0.false in omega arith) in
    let taken = rw c.page-page.ensures at (c.in_ok-parts.ensures.taken h.e h.es (rw c.page-page.ensures h.ahead)) in
    covered_step _ _ _ c.take_row.new.leaf _ _ _ _ h c.if-covered.true taken c.in_ok-parts.ensures.left c.take_row.ensures.more c.take_row.ensures.bound

pub returns-clause-rows : goal.returns-clause-rows
returns-clause-rows g c = λ honest m rest holds is.
    let h = head_of _ _ _ _ _ _ ((c.in_ok-refill.ensures.rows honest m rest holds is).0) (let not = c.if-leaf-eq0.false in omega arith) in
    let taken = rw c.page-page.ensures at (c.in_ok-parts.ensures.taken h.e h.es (rw c.page-page.ensures h.ahead)) in
    let key = ap (λ (page : List ℕ). (row_at page c.in_ok-parts.field-0).key) c.page-page.ensures in
    let found = c.starts_with.ensures.value ∙ (λ i. starts_with nat_eq (key i) (c.as_slice.ensures.bytes i)) in
    step_of _ _ _ c.take_row.new.leaf _ _ _ _ h c.starts_with.result taken c.in_ok-parts.ensures.left c.take_row.ensures.more c.take_row.ensures.bound found
