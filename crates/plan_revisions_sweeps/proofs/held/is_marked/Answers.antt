use Rattle.std.{specs.{FinMap.get, Prelude.{option_map, IfSome}}, proofs.Common.{◌≤◌, ℕ, take, nat_eq, refl, sym, ap, subst, ◌∙◌, arith, rules}}
use Rattle.{desk_store_pages.proofs.Looking.looked, desk_store_rows.proofs.OneGeography.no_value, plan_revisions_sweeps.proofs.Scanned.{marked_by, not_got}}
use Rattle.plan_revisions_sweeps.proofs.held.is_marked.Goals as goal

pub returns-in_err-get : goal.returns-in_err-get
returns-in_err-get g c = not_got c.in_err-get.field-0.0 c.from_residual.result c.get.ensures.reading.quiet c.in_err-get.ensures.reading.err c.from_residual.ensures.1

pub returns-in-None : goal.returns-in-None
returns-in-None g c = search (rules, arith, looked, c.in_ok-get.ensures.reading.passed, no_value, c.as_slice.ensures.bytes, c.in_ok-get.ensures.get, c.get.new.into, c.in-None.is)

pub returns-in-Some : goal.returns-in-Some
returns-in-Some g c = looked c.in_ok-get.ensures.reading.passed (λ honest m holds.
    let told = sym (ap (option_map (λ (l : ℕ). take l c.get.new.into)) c.in-Some.is) ∙ c.in_ok-get.ensures.get honest m holds ∙ ap (get m) c.as_slice.ensures.bytes in
    let few = subst (λ o. IfSome o (λ (n : ℕ). n ≤ 1024)) c.in-Some.is c.in_ok-get.ensures.short in
    marked_by c.get.new.into c.args.key.now m c.in-Some.length c.get.array_long few told (nat_eq c.in-Some.length 0) refl)
