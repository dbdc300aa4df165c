-- What no promise rests on, beside claim/Join.antt.
use Rattle.{std.specs.Prelude.{ℕ, List, Option, MatchOption}, pl94_segment.specs.{claim.Join.{IsLeastMissing, NoneMissing}, declared.record.SegmentNumber.SegmentNumber}}
use Rattle.pl94_segment.specs.declared.segment.SegRows.{SegRows}

abbrev pub IsLeast : SegRows → SegRows → SegRows → List ℕ → Option (ℕ × SegmentNumber) → Type 0
IsLeast first second third numbers o = MatchOption o (NoneMissing first second third numbers) (λ p. IsLeastMissing first second third numbers p.0 p.1)
