use Rattle.{std.proofs.Common.rules, gal_text.proofs.HoldingLemmas.unknown}
use Rattle.gal_text.proofs.units.block_of.Goals as goal

pub returns-in_err-place : goal.returns-in_err-place
returns-in_err-place c = search (rules, c.from_residual-in_err-place.ensures, c.from_number-id.ensures, c.in_ok-digits_exactly.ensures.value, c.in_err-place.ensures.missing, unknown)
