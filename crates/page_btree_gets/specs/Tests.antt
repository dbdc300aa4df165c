-- What a test tells by either answer.
use Rattle.std.specs.Prelude.{◌≡◌, Bool, true, false}

pub record IsTest (answer : Bool) (so : Type 0) : Type 0 where
  pub yes : answer ≡ true → so
  pub no : answer ≡ false → so → ⊥
