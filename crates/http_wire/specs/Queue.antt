-- Answers that wait in a buffer, so that they go out together.
use Rattle.std.specs.{Io.KnownBytes.Appends, Prelude.{◌≡◌, ℕ, List, ◌++◌, Option, Result, Ok, Err}}

-- of what waited before and this text all is written but what waits after
abbrev pub Queued : (old new : Option (List ℕ)) → (before after text : List ℕ) → Type 0
Queued old new before after text = (sent : List ℕ) × Appends old new sent × (before ++ text ≡ sent ++ after)

-- at a fault a prefix of it is written
abbrev pub Queues : {A E : Type 0} → (old new : Option (List ℕ)) → (before after : List ℕ) → Result A E → List ℕ → Type 0
Queues old new before after (Ok a) text = Queued old new before after text
Queues old new before after (Err e) text = (unsent : List ℕ) × Queued old new before unsent text
