-- How the file of a log is opened.
use Rattle.std.specs.{Fs.{asks_append, asks_truncate, asks_create, asks_create_new}, Prelude.{◌≡◌, ℕ, List, true, false}, declared.fs.options.OpenOptions.OpenOptions}

-- what it has stays, and each write adds to it; and it is made where there is none
pub record AddsLines (how : OpenOptions) : Type 0 where
  pub adds : asks_append how ≡ true
  pub stays : asks_truncate how ≡ false
  pub made : asks_create how ≡ true
  pub there : asks_create_new how ≡ false

-- the file of that name was opened so
pub record IsLogOf {O F : Type 0} (opens : O → OpenOptions → List ℕ → F → Type 0) (opener : O) (name : List ℕ) (file : F) : Type 0 where
  pub how : OpenOptions
  pub adds : AddsLines how
  pub opened : opens opener how name file
