-- Of truth values, by cases.
pub use Rattle.page_store.proofs.Chains.{either}
use Rattle.std.{specs.Prelude.T, proofs.Common.{◌≡◌, Bool, true, false, refl}}

pub true_is : (b : Bool) → T b → b ≡ true
true_is true h = refl
true_is false h = absurd h
