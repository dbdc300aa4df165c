use Rattle.std.{specs.List.AllWithin, proofs.Common.{◌≡◌, true}}
use Rattle.gal_text.proofs.links.first_missing.Given as goal

abbrev pub invariant-loop-place : goal.invariant-loop-place
invariant-loop-place l = AllWithin (λ mark. mark ≡ true) l.seen 0 l.place
