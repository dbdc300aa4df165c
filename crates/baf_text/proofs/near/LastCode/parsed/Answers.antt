use Rattle.{std.proofs.Common.rules, baf_text.proofs.Nearby.kept_code}
use Rattle.baf_text.proofs.near.LastCode.parsed.Goals as goal

pub invariant_of-self : goal.invariant_of-self
invariant_of-self c = search (rules, c.in-Some.ensures.0, c.in-Some.ensures.1, c.without_return.ensures, c.code_number.ensures, kept_code)
