use Rattle.{std.proofs.Common.{inl, inr, subst, subst₂}, plan_revisions_sweeps.specs.{Checks.IsThere, Finding.IsSought}}
use Rattle.desk_store_pages.proofs.Looking.{both, fails, fails_then, finds}
use Rattle.plan_revisions_sweeps.proofs.pieces.seek_left.Goals as goal

pub returns-in_err-seek_piece : goal.returns-in_err-seek_piece
returns-in_err-seek_piece g c = fails c.from_residual.result c.in_err-seek_piece.ensures c.from_residual.ensures.1 (λ m rows. rows)

pub returns-then-not-branch : goal.returns-then-not-branch
returns-then-not-branch g c = finds c.in_ok-seek_piece.ensures (λ m found rows gap.
    let is = subst (IsSought c.args.number c.seek_piece.new.gap c.seek_piece.new.row.key m) c.if-not-branch.true (found rows gap) in
    (inl is.0, is.1))

pub returns-in_err-is_there : goal.returns-in_err-is_there
returns-in_err-is_there g c = fails_then c.in_ok-seek_piece.ensures c.from_residual-in_err-is_there.result c.in_err-is_there.ensures c.from_residual-in_err-is_there.ensures.1 (λ m found rows. tt)

pub returns-then-branch : goal.returns-then-branch
returns-then-branch g c = finds (both c.in_ok-seek_piece.ensures c.in_ok-is_there.ensures) (λ m found rows gap.
    let is = subst (IsSought c.args.number c.seek_piece.new.gap c.seek_piece.new.row.key m) c.if-not-branch.false (found.0 rows gap) in
    (inr (subst₂ (λ k. IsThere k m) c.holder_count.ensures c.if-branch.true found.1), is.1))

pub returns : goal.returns
returns g c = finds (both c.in_ok-seek_piece.ensures c.in_ok-is_there.ensures) (λ m found rows gap.
    let is = subst (IsSought c.args.number c.seek_piece.new.gap c.seek_piece.new.row.key m) c.if-not-branch.false (found.0 rows gap) in
    (is.0, subst₂ (λ k. IsThere k m) c.holder_count.ensures c.if-branch.false found.1))
