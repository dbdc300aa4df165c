use Rattle.{std.proofs.Common.{◌≡◌, List, ℕ}, http_wire_intake.proofs.DrawsLemmas.goes_on}
use Rattle.http_wire_intake.proofs.sought.read_prefix.Goals as goal

pub returns-in-Err-clause-read : goal.returns-in-Err-clause-read
returns-in-Err-clause-read g c =
    let held = c.read_until_due.new.intake.read_buffer.now in
    goes_on (λ (xs : List ℕ). held ≡ xs) _ (g.R.Source.remaining c.loop-part.intake.reader.now) _ c.args.intake.now.read_buffer.now c.loop-part.intake.read_buffer.now c.loop-part.invariant.came c.in-Err.ensures.read
