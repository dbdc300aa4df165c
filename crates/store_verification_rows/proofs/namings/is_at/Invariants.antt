use Rattle.{std.{specs.Prelude.get_or, proofs.Common.{◌≡◌, ◌<◌, ◌*◌, ◌+◌, ℕ}}, store_verification_rows.specs.Strays.HasPiece}
use Rattle.store_verification_rows.proofs.namings.is_at.Given as goal

abbrev pub invariant-loop-place : goal.invariant-loop-place
invariant-loop-place l = (k : ℕ) → k < l.place → get_or l.numbers k 0 ≡ l.number → HasPiece l.ranges (128 * l.index + k) l.piece → ⊥
