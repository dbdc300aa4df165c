-- Whether an option is given doesn't depend on how its text is held.
use Rattle.std.{specs.{Borrow.Bor, Option.option_copied}, proofs.Common.{◌≡◌, ℕ, List, Option, Some, None, is_some, refl}}

pub is_copied : (o : Option (Bor (List ℕ))) → is_some (option_copied o) ≡ is_some o
is_copied None = refl
is_copied (Some text) = refl
