use Rattle.{std.{specs.Prelude.{Option, Some, None}, proofs.Common.{ℕ, List, true, sym, subst, ◌∙◌}}, desk_store_opening_tidy.specs.Rows.{ComesBefore, IsNextLoad}}
use Rattle.{desk_store_opening_tidy.proofs.{After.{ends_there, goes_on, kept_load}, FirstRows.first_there}, desk_store_pages.proofs.Looking.{both, fails, fails_then, finds}}
use Rattle.desk_store_opening_tidy.proofs.loads.pass_load.Goals as goal

pub returns-in_err-found-clause-looks : goal.returns-in_err-found-clause-looks
returns-in_err-found-clause-looks g c = fails c.from_residual.result c.in_err-found.ensures c.from_residual.ensures.1 (λ m is. is.rows)

pub returns-in-None-clause-looks : goal.returns-in-None-clause-looks
returns-in-None-clause-looks g c = finds c.in_ok-found.ensures (λ m found stands before.
    let none = subst (λ (o : Option ℕ). IsNextLoad c.as_slice.result.now m o) c.in-None.is found in
    ends_there m c.args.from.now c.args.from.now (subst (λ (k : List ℕ). IsNextLoad k m None) c.as_slice.ensures.bytes none) before)

pub returns-in_err-refuse_unknown-in-Some-clause-looks : goal.returns-in_err-refuse_unknown-in-Some-clause-looks
returns-in_err-refuse_unknown-in-Some-clause-looks g c =
    fails_then c.in_ok-found.ensures c.from_residual-in_err-refuse_unknown-in-Some.result c.in_err-refuse_unknown-in-Some.ensures c.from_residual-in_err-refuse_unknown-in-Some.ensures.1 (λ m found kept.
    let (first, more, is, under) = subst (λ (o : Option ℕ). IsNextLoad c.as_slice.result.now m o) c.in-Some.is found in
    record { stands = kept.stands; fits = under.fits; is = kept_load m kept.owned kept.rows first c.in-Some.load (first_there m c.as_slice.result.now first more is) under })

pub returns-in_ok-refuse_unknown-in-Some-clause-looks : goal.returns-in_ok-refuse_unknown-in-Some-clause-looks
returns-in_ok-refuse_unknown-in-Some-clause-looks g c = finds (both c.in_ok-found.ensures c.in_ok-refuse_unknown-in-Some.ensures) (λ m is stands before.
    let (first, more, next, under) = subst (λ (k : List ℕ). IsNextLoad k m (Some c.in-Some.load)) c.as_slice.ensures.bytes (subst (λ (o : Option ℕ). IsNextLoad c.as_slice.result.now m o) c.in-Some.is is.0) in
    subst (λ (k : List ℕ). ComesBefore true c.args.from.now k m) (sym (c.set.ensures ∙ c.as_slice-in-Some.ensures.bytes ∙ c.key_after.ensures)) (goes_on m c.args.from.now first more next c.in-Some.load under (is.1 stands) before))
