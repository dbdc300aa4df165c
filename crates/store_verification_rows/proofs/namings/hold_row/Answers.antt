use Rattle.{std.{specs.{FinMap.get, Prelude.{Some, option_map}}, proofs.Common.{◌≡◌, ℕ, true, false, take, inr, ⊎_elim, sym, ap, ◌∙◌}}, store_verification_rows.specs.Strays.IsAny}
use Rattle.desk_store_pages.proofs.{Looking.{begins, fails_from, looked}, Reading.get_unread}
use Rattle.store_verification_rows.proofs.namings.hold_row.Goals as goal

pub returns-then-is_held : goal.returns-then-is_held
returns-then-is_held g c = begins (λ m holds was. (was, λ is. ⊎_elim (λ none. absurd (c.is_held.ensures c.if-is_held.true none)) (λ there. there) was))

pub returns-in-None : goal.returns-in-None
returns-in-None g c = looked c.in_ok-get.ensures.reading.passed (λ honest m holds was. (was, λ is. absurd (let clash : false ≡ true = is in cc)))

pub returns-in-Some : goal.returns-in-Some
returns-in-Some g c = looked c.in_ok-get.ensures.reading.passed (λ honest m holds was.
    let told = sym (ap (option_map (λ (l : ℕ). take l c.get.new.into)) c.in-Some.is) ∙ c.in_ok-get.ensures.get honest m holds ∙ ap (get m) c.as_slice.ensures.bytes in
    let there = ap (get m) (c.set.ensures ∙ c.as_slice-in-Some.ensures.bytes) ∙ sym told ∙ ap Some (sym c.set-in-Some.ensures) in
    (inr there, λ is. there))

pub returns-in_err-get : goal.returns-in_err-get
returns-in_err-get g c =
    let e = c.in_err-get.field-0.0 in
    fails_from IsAny e c.from_residual.result c.get.ensures.reading.quiet (get_unread IsAny c.args.txn.now c.args.pages.now c.get.new.pages e c.in_err-get.ensures.reading.err) c.from_residual.ensures.1 (λ m any. any)
