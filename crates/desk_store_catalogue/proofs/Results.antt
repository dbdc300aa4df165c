-- What is said of a result, where its error is known.
use Rattle.std.{specs.Prelude.{IsErrAnd, MatchResult}, proofs.Common.{◌≡◌, Result, Ok, Err, subst, sym}}

pub match_of : {T E : Type 0} (r : Result T E) (A : T → Type 0) (x : E) (P : E → Type 0) → IsErrAnd r (λ e. e ≡ x) → P x → MatchResult r A P
match_of (Ok y) A x P is h = absurd is
match_of (Err e) A x P is h = subst P (sym is) h
