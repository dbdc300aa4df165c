use Rattle.{std.proofs.Common.{◌≡◌, sym, subst, ◌∙◌, arith}, desk_store_rows.specs.claim.Lists.{AreChunks, chunks_bytes}}
use Rattle.{desk_store_pages.proofs.Looking.{both, fails, fails_then, finds, refuses}, plan_revisions_sweeps.proofs.Left.{part_left, part_told, piece_left, plan_mark_left}}
use Rattle.plan_revisions_sweeps.proofs.leftovers.left_of_parts.Goals as goal

pub returns-in_err-first_under : goal.returns-in_err-first_under
returns-in_err-first_under g c = fails c.from_residual.result c.in_err-first_under.ensures c.from_residual.ensures.1 (λ m has. tt)

pub returns-then-not-branch : goal.returns-then-not-branch
returns-then-not-branch g c = finds c.in_ok-first_under.ensures (λ m found has no_holding.
    let none = rw (c.as_slice.ensures.bytes, c.plan_parts-prefix.ensures, c.if-not-branch.true) at found in
    rw (c.set.ensures ∙ c.as_slice-then-not-branch.ensures.bytes ∙ c.retired.ensures)
    (plan_mark_left m c.args.plan (let fits = c.ranges.plan in omega arith) has none))

pub returns-in_default : goal.returns-in_default
returns-in_default g c = refuses c.in_ok-first_under.ensures (λ m found has.
    part_told m c.args.plan (let fits = c.ranges.plan in omega arith) has _ (rw (c.as_slice.ensures.bytes, c.plan_parts-prefix.ensures, c.if-not-branch.false) at found)
    (λ numbers chunks same. c.in_default.ensures numbers chunks (same ∙ sym c.as_slice-2.ensures.bytes)))

pub returns-in_err-first_piece : goal.returns-in_err-first_piece
returns-in_err-first_piece g c = fails_then c.in_ok-first_under.ensures c.from_residual-in_err-first_piece.result c.in_err-first_piece.ensures c.from_residual-in_err-first_piece.ensures.1 (λ m found has. has.0.rows)

pub returns-then-not-branch-2 : goal.returns-then-not-branch-2
returns-then-not-branch-2 g c = finds (both c.in_ok-first_under.ensures c.in_ok-first_piece.ensures) (λ m found has no_holding.
    let numbers = c.as_slice-3.result.now in
    let is = rw (c.as_slice.ensures.bytes, c.plan_parts-prefix.ensures, c.if-not-branch.false) at found.0 in
    let gone = rw c.if-not-branch-2.true at (found.1 has.0.rows) in
    let chunks : AreChunks numbers = subst AreChunks (sym c.as_slice-3.ensures.value) c.in-Some.ensures.0 in
    let value : chunks_bytes numbers ≡ c.first_under.new.row.value = (λ i. chunks_bytes (c.as_slice-3.ensures.value i)) ∙ c.in-Some.ensures.1 ∙ c.as_slice-2.ensures.bytes in
    part_left m c.args.plan (let fits = c.ranges.plan in omega arith) has c.first_under.new.row is numbers chunks value no_holding gone)

pub returns : goal.returns
returns g c = finds (both c.in_ok-first_under.ensures c.in_ok-first_piece.ensures) (λ m found has no_holding.
    let numbers = c.as_slice-3.result.now in
    let is = rw (c.as_slice.ensures.bytes, c.plan_parts-prefix.ensures, c.if-not-branch.false) at found.0 in
    let there = rw c.if-not-branch-2.false at (found.1 has.0.rows) in
    let chunks : AreChunks numbers = subst AreChunks (sym c.as_slice-3.ensures.value) c.in-Some.ensures.0 in
    let value : chunks_bytes numbers ≡ c.first_under.new.row.value = (λ i. chunks_bytes (c.as_slice-3.ensures.value i)) ∙ c.in-Some.ensures.1 ∙ c.as_slice-2.ensures.bytes in
    rw (c.set-2.ensures ∙ c.as_slice-4.ensures.bytes)
    (piece_left m c.args.plan (let fits = c.ranges.plan in omega arith) has c.first_under.new.row is numbers chunks value
    c.first_piece.new.row.key there))
