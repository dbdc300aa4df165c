use Rattle.{std.proofs.Common.{subst₂, ◌∙◌, subst}, plan_revisions_sweeps.specs.Finding.{IsFirstFrom, IsPieceKey}, desk_store_pages.proofs.Looking.{fails, finds, refuses}}
use Rattle.plan_revisions_sweeps.proofs.Least.{least_piece, next_some, next_none}
use Rattle.plan_revisions_sweeps.proofs.pieces.chunk_from.Goals as goal

pub returns-in_err-key_from : goal.returns-in_err-key_from
returns-in_err-key_from g c = fails c.from_residual.result c.in_err-key_from.ensures c.from_residual.ensures.1 (λ m rows. tt)

pub returns-then-not-branch : goal.returns-then-not-branch
returns-then-not-branch g c = finds c.in_ok-key_from.ensures (λ m found rows.
    let key = c.key_from.new.found in
    next_none m c.args.number key c.ranges.number.fits (subst₂ (λ p. IsFirstFrom p key m) (c.as_slice.ensures.bytes ∙ c.chunk_pieces-prefix.ensures) c.if-not-branch.true found))

pub returns-in_default : goal.returns-in_default
returns-in_default g c = refuses c.in_ok-key_from.ensures (λ m found rows.
    let key = c.key_from.new.found in
    let at = least_piece m c.args.number key rows (subst₂ (λ p. IsFirstFrom p key m) (c.as_slice.ensures.bytes ∙ c.chunk_pieces-prefix.ensures) c.if-not-branch.false found) in
    c.in_default.ensures at.next at.piece (c.as_slice-2.ensures.bytes ∙ at.key_is))

pub returns : goal.returns
returns g c = finds c.in_ok-key_from.ensures (λ m found rows.
    let key = c.key_from.new.found in
    next_some m c.args.number c.in-Some.next key c.ranges.number.fits (subst₂ (λ p. IsFirstFrom p key m) (c.as_slice.ensures.bytes ∙ c.chunk_pieces-prefix.ensures) c.if-not-branch.false found)
    (subst (IsPieceKey c.in-Some.next) c.as_slice-2.ensures.bytes c.in-Some.ensures))
