use Rattle.{std.{specs.{FinMap.get, Prelude.option_map}, proofs.Common.{ℕ, take, sym, ap, ◌∙◌, arith, rules}}, desk_store_pages.proofs.Looking.looked}
use Rattle.plan_revisions_sweeps.proofs.Scanned.{not_got}
use Rattle.plan_revisions_sweeps.proofs.held.is_there.Goals as goal

pub returns-in_err-get : goal.returns-in_err-get
returns-in_err-get g c = not_got c.in_err-get.field-0.0 c.from_residual.result c.get.ensures.reading.quiet c.in_err-get.ensures.reading.err c.from_residual.ensures.1

pub returns-in-None : goal.returns-in-None
returns-in-None g c = search (rules, arith, looked, c.in_ok-get.ensures.reading.passed, c.as_slice.ensures.bytes, c.in_ok-get.ensures.get, c.get.new.into, c.in-None.is)

pub returns-in-Some : goal.returns-in-Some
returns-in-Some g c = looked c.in_ok-get.ensures.reading.passed (λ honest m holds. (
  take c.in-Some.field-0 c.get.new.into,
  ap (get m) (sym c.as_slice.ensures.bytes) ∙ sym (c.in_ok-get.ensures.get honest m holds) ∙ ap (option_map (λ (l : ℕ). take l c.get.new.into)) c.in-Some.is,
))
